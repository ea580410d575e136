-- The goals of `relate` that are proved by lemmas.
use Rattle.std.proofs.Common.{arith}
use Rattle.msp_closure.proofs.RelationLemmas.{relate_itself, relate_others, relate_kept}
use Rattle.msp_closure.proofs.relation.relate.Goals as goal

pub returns-clause-related : goal.returns-clause-related
returns-clause-related c = relate_itself c.args.words.now c.args.a c.args.b c.place.result c.rank.result c.place.ensures.place c.rank.ensures.rank
    (omega (arith, c.requires, c.place.ensures.below))

pub returns-clause-others : goal.returns-clause-others
returns-clause-others c = relate_others c.args.words.now c.args.a c.args.b c.place.result c.rank.result c.place.ensures.place c.rank.ensures.rank
    (omega (arith, c.requires, c.place.ensures.below))

pub returns-clause-kept : goal.returns-clause-kept
returns-clause-kept c = relate_kept c.args.words.now c.args.a c.args.b c.place.result c.rank.result c.place.ensures.place c.rank.ensures.rank
    (omega (arith, c.requires, c.place.ensures.below))
