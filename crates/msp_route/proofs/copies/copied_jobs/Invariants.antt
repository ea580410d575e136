-- The jobs so far are copied.
use Rattle.std.proofs.Common.{◌≡◌, take}
use Rattle.msp_route.proofs.copies.copied_jobs.Given as goal

abbrev pub invariant-loop-job : goal.invariant-loop-job
invariant-loop-job l = l.copies ≡ take l.job-index l.jobs
