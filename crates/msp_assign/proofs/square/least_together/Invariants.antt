use Rattle.msp_assign.specs.Square.{IsLeastTogether}
use Rattle.msp_assign.proofs.square.least_together.Given as goal

-- of the columns so far
abbrev pub invariant-loop-k : goal.invariant-loop-k
invariant-loop-k l = IsLeastTogether l.falls l.begun l.k l.least
