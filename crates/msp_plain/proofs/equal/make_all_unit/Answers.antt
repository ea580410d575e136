-- One more job has unit times.
use Rattle.std.proofs.Common.{rules}
use Rattle.msp_route.proofs.InPlace.{changed_next}
use Rattle.msp_plain.specs.Equal.{unit_job}
use Rattle.msp_plain.proofs.equal.make_all_unit.Goals as goal

pub loop-job-preserved : goal.loop-job-preserved
loop-job-preserved c = changed_next unit_job c.args.jobs.now c.loop-job.jobs c.loop-job.job-index c.job-item.result c.make_unit.new.job (search rules) c.loop-job.invariant c.make_unit.ensures
