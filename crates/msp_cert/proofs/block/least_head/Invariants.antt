use Rattle.msp_cert.proofs.BlockFacts.{IsLeastHead}
use Rattle.msp_cert.proofs.block.least_head.Given as goal

-- the least head of the jobs so far
abbrev pub invariant-loop-k : goal.invariant-loop-k
invariant-loop-k l = IsLeastHead l.head l.jobs l.k l.least
