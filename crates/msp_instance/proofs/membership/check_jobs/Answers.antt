use Rattle.std.proofs.Common.{subst, arith, below_more}
use Rattle.std.proofs.lemmas.List.{get_or_default}
use Rattle.msp_instance.specs.Instance.{no_job, job_at}
use Rattle.msp_instance.specs.Conditions.{text_limits, IsJobOf}
use Rattle.msp_instance.proofs.FaultLemmas.{fault_handed_on}
use Rattle.msp_instance.proofs.membership.check_jobs.Goals as goal

pub loop-job-preserved : goal.loop-job-preserved
loop-job-preserved c =
    below_more (λ k. IsJobOf text_limits c.args.inst.now (job_at c.args.inst.now k)) c.loop-job.job c.loop-job.invariant c.in_ok-check_job.ensures.ok

pub returns-in_err-check_job-clause-fault : goal.returns-in_err-check_job-clause-fault
returns-in_err-check_job-clause-fault c = (fault_handed_on _ _ _ c.from_residual.ensures.1 c.in_err-check_job.ensures.fault).1

pub returns-clause-ok : goal.returns-clause-ok
returns-clause-ok c k d t = subst (IsJobOf text_limits c.args.inst.now) (get_or_default c.args.inst.now.jobs k no_job d t) (c.loop-job.invariant k (omega arith))
