use Rattle.std.proofs.Common.{◌≡◌, take}
use Rattle.msp_uniform.proofs.fill.all_free.Given as goal

-- the machines so far
abbrev pub invariant-loop-machine : goal.invariant-loop-machine
invariant-loop-machine l = l.free ≡ take l.machine-index l.machines
