-- The goals of `next_related` that are proved by lemmas.
use Rattle.std.proofs.Common.{sym, ◌∙◌, arith}
use Rattle.msp_class.specs.Rank.{rank_of}
use Rattle.msp_class.proofs.RankLemmas.{rank_of-below}
use Rattle.msp_closure.proofs.RelationLemmas.{bit_related, no_bit_related}
use Rattle.msp_closure.proofs.relation.Relation.next_related.Goals as goal

pub returns-in-Some-clause-related : goal.returns-in-Some-clause-related
returns-in-Some-clause-related c = bit_related c.deref.result.now _ c.args.c c.class_at.result c.rank.result c.in-Some.n
    (c.deref.ensures.value ∙ c.self.view_is) c.rank.ensures.rank (sym c.class_at.ensures) c.in-Some.ensures.set

pub returns-in-Some-clause-least : goal.returns-in-Some-clause-least
returns-in-Some-clause-least c = λ x high early.
    no_bit_related c.deref.result.now _ c.args.c x c.rank.result (c.deref.ensures.value ∙ c.self.view_is) c.rank.ensures.rank
    (c.in-Some.ensures.least (rank_of x) high (omega (arith, early, c.class_at.ensures)))

pub returns-in_default-clause-none : goal.returns-in_default-clause-none
returns-in_default-clause-none c = λ x high.
    no_bit_related c.deref.result.now _ c.args.c x c.rank.result (c.deref.ensures.value ∙ c.self.view_is) c.rank.ensures.rank
    (c.in-Some.ensures.least (rank_of x) high (omega (arith, rank_of-below x, c.if-n-lt-CLASSES.false)))

pub returns-in_default-2-clause-none : goal.returns-in_default-2-clause-none
returns-in_default-2-clause-none c = λ x high.
    no_bit_related c.deref.result.now _ c.args.c x c.rank.result (c.deref.ensures.value ∙ c.self.view_is) c.rank.ensures.rank
    (c.in_default.ensures.none (rank_of x) high (omega (arith, rank_of-below x)))
