use Rattle.std.proofs.Common.{◌≡◌, length}
use Rattle.msp_total.proofs.slot_assignment.dated_of.Given as goal

-- one for each so far
abbrev pub invariant-loop-job : goal.invariant-loop-job
invariant-loop-job l = length l.jobs.items ≡ l.job
