-- The jobs before the place have release dates, the others are as they were.
use Rattle.std.proofs.Common.{◌≡◌, ◌++◌, map, take, drop}
use Rattle.msp_turn.specs.Reversal.{release_by_due}
use Rattle.msp_turn.proofs.dates.release_all.Given as goal

abbrev pub invariant-loop-job : goal.invariant-loop-job
invariant-loop-job l = l.jobs ≡ map (release_by_due l.last) (take l.job-index l.initial.jobs) ++ drop l.job-index l.initial.jobs
