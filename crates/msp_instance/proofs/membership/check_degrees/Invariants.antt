use Rattle.std.proofs.Common.{ℕ, ◌<◌}
use Rattle.msp_instance.specs.Conditions.{HasDegree}
use Rattle.msp_instance.proofs.membership.check_degrees.Given as goal

abbrev pub invariant-loop-job : goal.invariant-loop-job
invariant-loop-job l = (k : ℕ) → k < l.job → HasDegree l.inst.class.order l.inst.arcs k
