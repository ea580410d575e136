-- The goals of `with_standing` that are proved by lemmas.
use Rattle.std.proofs.Common.{false, sym, ap, ◌∙◌, length-set, arith}
use Rattle.std.proofs.lemmas.Option.{get_or_from_slice_get}
use Rattle.msp_class.specs.declared.class.Class.{Class}
use Rattle.msp_class.specs.Rank.{rank_of}
use Rattle.msp_class.proofs.RankLemmas.{rank_of-below}
use Rattle.msp_closure.specs.declared.entry.Mark.TheVariants.{Unsettled}
use Rattle.msp_closure.specs.Frontier.{mark_at}
use Rattle.msp_closure.specs.Standing.{has_standing}
use Rattle.msp_closure.proofs.TableLemmas.{value_next}
use Rattle.msp_closure.proofs.frontier_lists.with_standing.Goals as goal

pub loop-n-preserved : goal.loop-n-preserved
loop-n-preserved c =
    let read = get_or_from_slice_get c.args.labels.now (rank_of c.class_at-c.result) c.label.result Unsettled c.label.ensures in
    rw c.set.ensures.written (
      rw length-set c.loop-n.invariant.0,
      value_next (λ (x : Class). has_standing c.args.standing (mark_at c.args.labels.now x)) c.loop-n.table c.loop-n.n c.class_at-c.result
          c.has_standing.result false c.loop-n.invariant.0 c.class_at-c.ensures
          (c.has_standing.ensures ∙ ap (has_standing c.args.standing) (sym read)) c.loop-n.invariant.1,
    )

pub returns : goal.returns
returns c = λ x. c.loop-n.invariant.1 x (omega (arith, rank_of-below x))
