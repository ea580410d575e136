-- One more job is put on each machine.
use Rattle.std.proofs.Common.{rules}
use Rattle.msp_route.proofs.InPlace.{changed_next}
use Rattle.msp_machines.specs.Unrelated.{on_each_machine}
use Rattle.msp_machines.proofs.unrelated.put_all_on_each.Goals as goal

pub loop-job-preserved : goal.loop-job-preserved
loop-job-preserved c = changed_next (on_each_machine c.args.machines)
    c.args.jobs.now c.loop-job.jobs c.loop-job.job-index c.job-item.result c.put_on_each.new.job (search rules) c.loop-job.invariant c.in_ok-put_on_each.ensures
