use Rattle.std.proofs.Common.{refl, sym, get_or, subst, take, ◌+◌, ◌∙◌, rules}
use Rattle.std.proofs.lemmas.Int.{to_z-of_z}
use Rattle.std.specs.Int.{w128}
use Rattle.msp_schedule.specs.Begins.{IsEarlierEnd}
use Rattle.msp_pieces.specs.Piece.{no_piece}
use Rattle.msp_schedule.proofs.judging.JobShares.{earlier_more, earlier_same, greater_of}
use Rattle.msp_schedule.proofs.breaks.earlier_end.Goals as goal
use Rattle.msp_schedule.proofs.breaks.earlier_end.Goals.{then-is_earlier, else-is_earlier}

pub loop-p-preserved : goal.loop-p-preserved
loop-p-preserved c = elim c.if-is_earlier.branch [
  | then-is_earlier w ↦ subst (IsEarlierEnd (take (c.loop-p.p-index + 1) c.args.pieces.now) c.args.job c.args.op) (sym
      (w.end-is ∙ to_z-of_z w128 w.max-end.result (search rules) ∙ greater_of _ _ _ _ w.max-end.ensures.value (to_z-of_z w128 (get_or c.args.pieces.now c.loop-p.p-index no_piece).to (search rules))))
      (earlier_more c.args.pieces.now c.loop-p.p-index c.args.job c.args.op _ _ _ c.loop-p-test.true refl (c.is_earlier.ensures.0 w.if-is_earlier.true) c.loop-p.invariant)
  | else-is_earlier w ↦ subst (IsEarlierEnd (take (c.loop-p.p-index + 1) c.args.pieces.now) c.args.job c.args.op) (sym (w.end-is))
      (earlier_same c.args.pieces.now c.loop-p.p-index c.args.job c.args.op _ _ _ c.loop-p-test.true refl (λ h. let yes = c.is_earlier.ensures.1 h in absurd (cc)) c.loop-p.invariant)
]
