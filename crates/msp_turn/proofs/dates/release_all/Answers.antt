-- One more job has a release date.
use Rattle.std.proofs.Common.{rules}
use Rattle.msp_turn.specs.Reversal.{release_by_due}
use Rattle.msp_route.proofs.InPlace.{changed_next}
use Rattle.msp_turn.proofs.dates.release_all.Goals as goal

pub loop-job-preserved : goal.loop-job-preserved
loop-job-preserved c = changed_next (release_by_due _) c.args.jobs.now c.loop-job.jobs c.loop-job.job-index c.job-item.result c.release.new.job (search rules) c.loop-job.invariant c.release.ensures
