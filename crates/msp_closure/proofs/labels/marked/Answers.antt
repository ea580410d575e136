-- The goals of `marked` that are proved by lemmas.
use Rattle.std.proofs.Common.{false, length-set, arith}
use Rattle.msp_class.specs.declared.class.Class.{Class}
use Rattle.msp_class.proofs.RankLemmas.{rank_of-below}
use Rattle.msp_closure.specs.Tables.{is_flagged}
use Rattle.msp_closure.specs.Entries.{mark_of}
use Rattle.msp_closure.proofs.TableLemmas.{value_next}
use Rattle.msp_closure.proofs.labels.marked.Goals as goal

pub loop-n-preserved : goal.loop-n-preserved
loop-n-preserved c = rw c.set.ensures.written (
  rw length-set c.loop-n.invariant.0,
  λ x d below.
      value_next (λ (y : Class). mark_of (is_flagged c.args.to_easy.now y) (is_flagged c.args.to_pseudo.now y) (is_flagged c.args.from_hard.now y)
      (is_flagged c.args.from_strong.now y)) c.loop-n.table c.loop-n.n c.class_at-c.result c.of.result d c.loop-n.invariant.0 c.class_at-c.ensures
      (rw (c.at-easy.ensures.value false, c.at-pseudo.ensures.value false, c.at-hard.ensures.value false, c.at-strong.ensures.value false) c.of.ensures)
      (λ y early. c.loop-n.invariant.1 y d early) x below,
)

pub returns-clause-each : goal.returns-clause-each
returns-clause-each c = λ x d. c.loop-n.invariant.1 x d (omega (arith, rank_of-below x))
