use Rattle.msp_instance.specs.Faults.{HasJobsBefore}
use Rattle.msp_instance.proofs.membership.check_jobs.Given as goal

abbrev pub invariant-loop-job : goal.invariant-loop-job
invariant-loop-job l = HasJobsBefore l.inst l.job
