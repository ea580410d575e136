-- The goals of `identity` that are proved by lemmas.
use Rattle.std.proofs.Common.{arith, ◌≡◌, length, ap, sym, ◌∙◌}
use Rattle.std.proofs.lemmas.List.{take_at}
use Rattle.msp_class.proofs.RankLemmas.{rank_of-below}
use Rattle.msp_closure.proofs.RelationLemmas.{none_related, itself_next, alone_next}
use Rattle.msp_closure.proofs.relation.Relation.identity.Goals as goal

pub loop-n-init : goal.loop-n-init
loop-n-init c = (
  c.in_ok-words.ensures.len,
  λ a b. none_related c.in_ok-words.words.items a b c.in_ok-words.ensures.len c.in_ok-words.ensures.each,
  λ a below. absurd (omega arith),
)

pub loop-n-preserved : goal.loop-n-preserved
loop-n-preserved c =
    let before : c.deref_mut.result.now ≡ c.loop-n.words.items = c.deref_mut.ensures.value in
    let len : length c.relate.new.words ≡ length c.loop-n.words.items = c.relate.auto.words ∙ ap length before in
    rw (take_at c.relate.new.words _ c.loop-n.words.len (len ∙ sym c.loop-n.words.ok.0)) (
      len ∙ c.loop-n.invariant.0,
      alone_next c.deref_mut.result.now c.relate.new.words c.class_at-c.result (rw before c.loop-n.invariant.1) c.relate.ensures.others,
      itself_next c.deref_mut.result.now c.relate.new.words c.loop-n.n c.class_at-c.result c.class_at-c.ensures
          (rw before c.loop-n.invariant.2) c.relate.ensures.related c.relate.ensures.kept,
    )

pub returns-clause-itself : goal.returns-clause-itself
returns-clause-itself c = λ a. c.loop-n.invariant.2 a (omega (arith, rank_of-below a))
