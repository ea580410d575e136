-- The needs on the machines before this one.
use Rattle.std.proofs.Common.{◌≡◌, ◌*◌, ◌/◌, slice_index_or}
use Rattle.msp_machines.specs.Unrelated.{needs_by}
use Rattle.msp_machines.proofs.unrelated.needs_by_speeds.Given as goal

abbrev pub invariant-loop-machine : goal.invariant-loop-machine
invariant-loop-machine l = l.needs ≡ needs_by l.machine (λ m. l.time * (l.factor / slice_index_or l.speeds m 0))
