-- One more job is raised.
use Rattle.std.proofs.Common.{rules}
use Rattle.msp_plain.specs.Changes.{raised}
use Rattle.msp_route.proofs.InPlace.{changed_next}
use Rattle.msp_plain.proofs.threshold.raise_all.Goals as goal

pub loop-job-preserved : goal.loop-job-preserved
loop-job-preserved c = changed_next (raised _) c.args.jobs.now c.loop-job.jobs c.loop-job.job-index c.job-item.result c.raise.new.job (search rules) c.loop-job.invariant c.raise.ensures
