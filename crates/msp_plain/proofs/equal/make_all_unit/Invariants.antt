-- The jobs before the place have unit times, the others are as they were.
use Rattle.std.proofs.Common.{◌≡◌, ◌++◌, map, take, drop}
use Rattle.msp_plain.specs.Equal.{unit_job}
use Rattle.msp_plain.proofs.equal.make_all_unit.Given as goal

abbrev pub invariant-loop-job : goal.invariant-loop-job
invariant-loop-job l = l.jobs ≡ map unit_job (take l.job-index l.initial.jobs) ++ drop l.job-index l.initial.jobs
