-- The jobs before the place have the operation, the others are as they were.
use Rattle.std.proofs.Common.{◌≡◌, ◌++◌, map, take, drop}
use Rattle.msp_machines.specs.Shops.{with_idle_operation}
use Rattle.msp_machines.proofs.shops.add_idle_operations.Given as goal

abbrev pub invariant-loop-job : goal.invariant-loop-job
invariant-loop-job l = l.jobs ≡ map (with_idle_operation l.machine) (take l.job-index l.initial.jobs) ++ drop l.job-index l.initial.jobs
