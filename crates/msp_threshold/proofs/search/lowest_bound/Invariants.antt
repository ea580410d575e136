use Rattle.msp_threshold.proofs.Bounds.{IsLowestSoFar}
use Rattle.msp_threshold.proofs.search.lowest_bound.Given as goal

-- the least bound for the jobs so far, and the first
abbrev pub invariant-loop-job : goal.invariant-loop-job
invariant-loop-job l = IsLowestSoFar l.jobs l.job-index l.lowest
