-- The goals of `join_word` that are proved by lemmas.
use Rattle.std.proofs.Common.{rules}
use Rattle.msp_closure.proofs.RelationLemmas.{rises_or}
use Rattle.msp_closure.proofs.relation.join_word.Goals as goal

pub returns-clause-rises : goal.returns-clause-rises
returns-clause-rises c = rises_or c.args.words.now c.args.to _ c.requires.to_in (search rules)
