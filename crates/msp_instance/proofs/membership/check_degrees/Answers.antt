use Rattle.std.proofs.Common.{refl, subst, arith, below_more}
use Rattle.msp_instance.specs.Conditions.{HasDegree}
use Rattle.msp_instance.proofs.membership.check_degrees.Goals as goal

pub loop-job-preserved : goal.loop-job-preserved
loop-job-preserved c =
    below_more (λ k. HasDegree c.args.inst.now.class.order c.args.inst.now.arcs k) c.loop-job.job c.loop-job.invariant
    (subst (λ l. HasDegree c.args.inst.now.class.order l c.loop-job.job) c.as_slice.ensures (c.if-not-has_degree.ensures.0 refl))

pub returns-clause-ok : goal.returns-clause-ok
returns-clause-ok c = λ j t. c.loop-job.invariant j (omega arith)
