use Rattle.msp_pieces.proofs.lists.Pushes.{range-next}
use Rattle.msp_pieces.proofs.numbers.all_jobs.Goals as goal

pub loop-job-preserved : goal.loop-job-preserved
loop-job-preserved c = range-next _ _ _ c.in_ok-push.ensures.items c.loop-job.invariant
