-- What the loop of `next_bit` keeps.
use Rattle.msp_closure.proofs.RelationLemmas.{NoneBefore}
use Rattle.msp_closure.proofs.relation.next_bit.Given as goal

abbrev pub invariant-loop-k : goal.invariant-loop-k
invariant-loop-k l = NoneBefore l.words l.row l.from l.k
