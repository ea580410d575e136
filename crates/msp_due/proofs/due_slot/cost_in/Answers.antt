use Rattle.msp_route.proofs.JobReads.{small_job}
use Rattle.msp_due.proofs.due_slot.cost_in.Goals as goal

pub job_cost_at-requires-clause-small : goal.job_cost_at-requires-clause-small
job_cost_at-requires-clause-small c = small_job c.args.inst.now c.requires.inner _ _ _ c.as_slice.ensures c.index-as_slice-job.is c.requires.inside
