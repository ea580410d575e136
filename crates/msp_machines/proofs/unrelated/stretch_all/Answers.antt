-- One more job is stretched.
use Rattle.std.proofs.Common.{rules}
use Rattle.msp_route.proofs.InPlace.{changed_next}
use Rattle.msp_machines.specs.Unrelated.{stretched}
use Rattle.msp_machines.proofs.unrelated.stretch_all.Goals as goal

pub loop-job-preserved : goal.loop-job-preserved
loop-job-preserved c = changed_next (stretched c.args.factor c.args.speeds.now)
    c.args.jobs.now c.loop-job.jobs c.loop-job.job-index c.job-item.result c.stretch.new.job (search rules) c.loop-job.invariant c.in_ok-stretch.ensures
