-- The jobs before the place are put on each machine, the others are as they were.
use Rattle.std.proofs.Common.{◌≡◌, ◌++◌, map, take, drop}
use Rattle.msp_machines.specs.Unrelated.{on_each_machine}
use Rattle.msp_machines.proofs.unrelated.put_all_on_each.Given as goal

abbrev pub invariant-loop-job : goal.invariant-loop-job
invariant-loop-job l = l.jobs ≡ map (on_each_machine l.machines) (take l.job-index l.initial.jobs) ++ drop l.job-index l.initial.jobs
