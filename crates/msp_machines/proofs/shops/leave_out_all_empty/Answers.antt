-- One more job is left without empty operations.
use Rattle.std.proofs.Common.{rules}
use Rattle.msp_machines.specs.Shops.{without_empty}
use Rattle.msp_route.proofs.InPlace.{changed_next}
use Rattle.msp_machines.proofs.shops.leave_out_all_empty.Goals as goal

pub loop-job-preserved : goal.loop-job-preserved
loop-job-preserved c = changed_next (without_empty) c.args.jobs.now c.loop-job.jobs c.loop-job.job-index c.job-item.result c.leave_out_empty.new.job
    (search rules) c.loop-job.invariant c.leave_out_empty.ensures
