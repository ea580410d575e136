-- The jobs before the place are raised, the others are as they were.
use Rattle.std.proofs.Common.{◌≡◌, ◌++◌, map, take, drop}
use Rattle.msp_plain.specs.Changes.{raised}
use Rattle.msp_plain.proofs.threshold.raise_all.Given as goal

abbrev pub invariant-loop-job : goal.invariant-loop-job
invariant-loop-job l = l.jobs ≡ map (raised l.bound) (take l.job-index l.initial.jobs) ++ drop l.job-index l.initial.jobs
