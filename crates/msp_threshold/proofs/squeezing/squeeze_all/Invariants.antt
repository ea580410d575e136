-- The jobs before the place are squeezed, the others are as they were.
use Rattle.std.proofs.Common.{◌≡◌, ◌++◌, map, take, drop}
use Rattle.msp_threshold.specs.Squeezed.{squeezed_job}
use Rattle.msp_threshold.proofs.squeezing.squeeze_all.Given as goal

abbrev pub invariant-loop-job : goal.invariant-loop-job
invariant-loop-job l = l.jobs ≡ map (squeezed_job l.kept l.bound) (take l.job-index l.initial.jobs) ++ drop l.job-index l.initial.jobs
