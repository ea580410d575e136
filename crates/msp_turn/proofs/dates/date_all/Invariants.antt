-- The jobs before the place have due dates, the others are as they were.
use Rattle.std.proofs.Common.{◌≡◌, ◌++◌, map, take, drop}
use Rattle.msp_turn.specs.Reversal.{due_by_release}
use Rattle.msp_turn.proofs.dates.date_all.Given as goal

abbrev pub invariant-loop-job : goal.invariant-loop-job
invariant-loop-job l = l.jobs ≡ map due_by_release (take l.job-index l.initial.jobs) ++ drop l.job-index l.initial.jobs
