use Rattle.msp_cert.proofs.Tails.{AreCounted}
use Rattle.msp_cert.proofs.search.jobs_at.Given as goal

-- the jobs so far are counted
abbrev pub invariant-loop-k : goal.invariant-loop-k
invariant-loop-k l = AreCounted l.level l.k l.counts
