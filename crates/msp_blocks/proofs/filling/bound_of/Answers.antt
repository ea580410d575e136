use Rattle.msp_route.proofs.JobReads.{small_job}
use Rattle.msp_blocks.proofs.filling.bound_of.Goals as goal

pub job_cost_at-cost-requires-clause-small : goal.job_cost_at-cost-requires-clause-small
job_cost_at-cost-requires-clause-small c = small_job c.args.inst.now c.requires.inner _ _ _ c.as_slice.ensures c.index-as_slice-last.is c.requires.inside
