-- The jobs before the place are charged by curves, the others are as they were.
use Rattle.std.proofs.Common.{◌≡◌, ◌++◌, map, take, drop}
use Rattle.msp_plain.specs.Changes.{by_curve}
use Rattle.msp_plain.proofs.curves.charge_all_by_curves.Given as goal

abbrev pub invariant-loop-job : goal.invariant-loop-job
invariant-loop-job l = l.jobs ≡ map by_curve (take l.job-index l.initial.jobs) ++ drop l.job-index l.initial.jobs
