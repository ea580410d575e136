use Rattle.msp_cert.proofs.Apart.{AreSeen}
use Rattle.msp_cert.proofs.group.are_apart.Given as goal

-- the jobs so far stand once, and they are seen
abbrev pub invariant-loop-k : goal.invariant-loop-k
invariant-loop-k l = AreSeen l.jobs l.k l.seen
