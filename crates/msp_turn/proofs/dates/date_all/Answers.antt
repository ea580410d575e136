-- One more job has a due date.
use Rattle.std.proofs.Common.{rules}
use Rattle.msp_turn.specs.Reversal.{due_by_release}
use Rattle.msp_route.proofs.InPlace.{changed_next}
use Rattle.msp_turn.proofs.dates.date_all.Goals as goal

pub loop-job-preserved : goal.loop-job-preserved
loop-job-preserved c = changed_next due_by_release c.args.jobs.now c.loop-job.jobs c.loop-job.job-index c.job-item.result c.date.new.job (search rules) c.loop-job.invariant c.date.ensures
