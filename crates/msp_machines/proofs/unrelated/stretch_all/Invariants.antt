-- The jobs before the place are stretched, the others are as they were.
use Rattle.std.proofs.Common.{◌≡◌, ◌++◌, map, take, drop}
use Rattle.msp_machines.specs.Unrelated.{stretched}
use Rattle.msp_machines.proofs.unrelated.stretch_all.Given as goal

abbrev pub invariant-loop-job : goal.invariant-loop-job
invariant-loop-job l = l.jobs ≡ map (stretched l.factor l.speeds) (take l.job-index l.initial.jobs) ++ drop l.job-index l.initial.jobs
