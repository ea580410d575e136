use Rattle.msp_cert.proofs.BlockFacts.{small_cost}
use Rattle.msp_cert.proofs.block.cost_of.Goals as goal

pub job_cost_at-requires-clause-small : goal.job_cost_at-requires-clause-small
job_cost_at-requires-clause-small c = small_cost c.args.inst.now c.as_slice.result.now c.args.job c.index-as_slice-job.result c.requires.class c.as_slice.ensures c.index-as_slice-job.is c.requires.job
