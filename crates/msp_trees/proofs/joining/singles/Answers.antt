-- One more block of one job.
use Rattle.msp_trees.proofs.Picks.{singles-next}
use Rattle.msp_trees.proofs.joining.singles.Goals as goal

pub loop-job-preserved : goal.loop-job-preserved
loop-job-preserved c = singles-next c.args.count c.loop-job.job _ _ _ c.in_ok-push-2.ensures.items c.in_ok-single-2.ensures c.loop-job.invariant
