-- The jobs before the place have no operations of time 0, the others are as they were.
use Rattle.std.proofs.Common.{◌≡◌, ◌++◌, map, take, drop}
use Rattle.msp_machines.specs.Shops.{without_empty}
use Rattle.msp_machines.proofs.shops.leave_out_all_empty.Given as goal

abbrev pub invariant-loop-job : goal.invariant-loop-job
invariant-loop-job l = l.jobs ≡ map (without_empty) (take l.job-index l.initial.jobs) ++ drop l.job-index l.initial.jobs
