-- The goals of `new` that are proved by lemmas.
use Rattle.msp_class.proofs.RankLemmas.{rank_of-below}
use Rattle.msp_closure.proofs.class_table.ClassTable.new.Goals as goal

pub returns-in-Ok-clause-each : goal.returns-in-Ok-clause-each
returns-in-Ok-clause-each g c = λ k d. c.in-Ok.ensures.each _ d (rank_of-below k)
