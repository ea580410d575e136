use Rattle.std.proofs.Common.{rules, to_z, of_z}
use Rattle.std.specs.Int.{w64}
use Rattle.msp_route.proofs.InPlace.{changed_next}
use Rattle.msp_threshold.specs.Squeezed.{squeezed_job}
use Rattle.msp_threshold.proofs.squeezing.squeeze_all.Goals as goal

pub loop-job-preserved : goal.loop-job-preserved
loop-job-preserved c = changed_next (squeezed_job c.args.kept.now (to_z w64 (of_z w64 c.args.bound)))
    c.args.jobs.now c.loop-job.jobs c.loop-job.job-index c.job-item.result c.squeeze.new.job (search rules) c.loop-job.invariant c.squeeze.ensures
