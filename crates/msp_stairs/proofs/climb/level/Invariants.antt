use Rattle.std.proofs.Common.{◌≡◌}
use Rattle.msp_stairs.specs.Steps.{level}
use Rattle.msp_stairs.proofs.climb.level.Given as goal

-- the machines so far
abbrev pub invariant-loop-machine : goal.invariant-loop-machine
invariant-loop-machine l = l.stairs.items ≡ level l.machine
