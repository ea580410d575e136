-- At first each job is a block.
use Rattle.msp_trees.proofs.Picks.{joined-begin}
use Rattle.msp_trees.proofs.joining.joined_jobs.Goals as goal

pub join_all-requires-clause-joined : goal.join_all-requires-clause-joined
join_all-requires-clause-joined c = joined-begin c.args.inst.now c.requires.class c.requires.inner c.len.result _ c.len.ensures c.in_ok-blocks.ensures
