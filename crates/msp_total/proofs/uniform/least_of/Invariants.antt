-- the least of the numbers so far
use Rattle.msp_total.proofs.TurnSteps.{IsLeastBelow}
use Rattle.msp_total.proofs.uniform.least_of.Given as goal

abbrev pub invariant-loop-k : goal.invariant-loop-k
invariant-loop-k l = IsLeastBelow l.numbers l.k l.least
