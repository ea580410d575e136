use Rattle.std.proofs.Common.{ℕ, ◌<◌}
use Rattle.msp_instance.specs.Faults.{HasArc}
use Rattle.msp_instance.proofs.membership.check_arcs.Given as goal

abbrev pub invariant-loop-at : goal.invariant-loop-at
invariant-loop-at l = (k : ℕ) → k < l.at → HasArc l.inst k
