-- One more job is charged by its curve.
use Rattle.std.proofs.Common.{rules}
use Rattle.msp_plain.specs.Changes.{by_curve}
use Rattle.msp_route.proofs.InPlace.{changed_next}
use Rattle.msp_plain.proofs.curves.charge_all_by_curves.Goals as goal

pub loop-job-preserved : goal.loop-job-preserved
loop-job-preserved c = changed_next by_curve c.args.jobs.now c.loop-job.jobs c.loop-job.job-index c.job-item.result c.charge_by_curve.new.job
    (search rules) c.loop-job.invariant c.charge_by_curve.ensures
