-- One more job has the operation.
use Rattle.std.proofs.Common.{rules}
use Rattle.msp_machines.specs.Shops.{with_idle_operation}
use Rattle.msp_route.proofs.InPlace.{changed_next}
use Rattle.msp_machines.proofs.shops.add_idle_operations.Goals as goal

pub loop-job-preserved : goal.loop-job-preserved
loop-job-preserved c = changed_next (with_idle_operation c.args.machine) c.args.jobs.now c.loop-job.jobs c.loop-job.job-index c.job-item.result c.add_idle_operation.new.job
    (search rules) c.loop-job.invariant c.in_ok-add_idle_operation.ensures
