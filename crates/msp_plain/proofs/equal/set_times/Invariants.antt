-- The needs before the place have the time 1, the others are as they were.
use Rattle.std.proofs.Common.{◌≡◌, ◌++◌, map, take, drop}
use Rattle.msp_plain.specs.Equal.{unit_need}
use Rattle.msp_plain.proofs.equal.set_times.Given as goal

abbrev pub invariant-loop-need : goal.invariant-loop-need
invariant-loop-need l = l.needs ≡ map unit_need (take l.need-index l.initial.needs) ++ drop l.need-index l.initial.needs
