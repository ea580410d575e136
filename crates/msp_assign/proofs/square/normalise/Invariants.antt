use Rattle.msp_assign.proofs.Normal.{IsNormalising}
use Rattle.msp_assign.proofs.square.normalise.Given as goal

-- the columns so far
abbrev pub invariant-loop-k : goal.invariant-loop-k
invariant-loop-k l = IsNormalising l.initial.falls l.begun l.least l.falls l.k
