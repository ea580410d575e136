-- The jobs before the place are exchanged, the others are as they were.
use Rattle.std.proofs.Common.{◌≡◌, ◌++◌, map, take, drop}
use Rattle.msp_turn.specs.Exchanged.{exchanged_job}
use Rattle.msp_turn.proofs.exchange.exchange_all.Given as goal

abbrev pub invariant-loop-job : goal.invariant-loop-job
invariant-loop-job l = l.jobs ≡ map exchanged_job (take l.job-index l.initial.jobs) ++ drop l.job-index l.initial.jobs
