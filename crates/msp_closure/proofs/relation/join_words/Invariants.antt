-- What the loop of `join_words` keeps.
use Rattle.msp_closure.specs.Relation.{Rises}
use Rattle.msp_closure.proofs.RelationLemmas.{JoinedTo}
use Rattle.msp_closure.proofs.relation.join_words.Given as goal

abbrev pub invariant-loop-k : goal.invariant-loop-k
invariant-loop-k l = JoinedTo l.fn.words l.words l.to l.from l.k × Rises l.fn.words l.words l.changed
