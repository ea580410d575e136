-- One more piece is in time, and so are all at the end.
use Rattle.std.proofs.Common.{rules, ◌<◌, ◌≤◌, length, All, subst, refl}
use Rattle.std.specs.Int.{w64, w128}
use Rattle.std.proofs.lemmas.Int.{to_z-of_z}
use Rattle.msp_plain.specs.Threshold.{IsInTime}
use Rattle.msp_plain.proofs.InTime.{one_more, all_of, in_time_again}
use Rattle.msp_plain.proofs.threshold.all_in_time.Goals as goal

pub loop-piece-preserved : goal.loop-piece-preserved
loop-piece-preserved c = one_more (IsInTime c.args.jobs.now c.args.s.now.unit _)
    c.args.s.now.pieces c.loop-piece.piece-index _ (subst (λ l. c.loop-piece.piece-index < length l) c.as_slice-piece-items.ensures c.loop-piece-test.true) c.loop-piece.invariant
    (in_time_again c.args.jobs.now _ c.args.s.now.unit _ _ c.args.s.now.pieces c.loop-piece.piece-index _ (to_z-of_z w128 c.args.s.now.unit (search rules))
    c.as_slice-piece-items.ensures (c.is_in_time.ensures.0 c.if-not-is_in_time.false))

pub returns : goal.returns
returns c =
    let whole = all_of (IsInTime c.args.jobs.now c.args.s.now.unit _) c.args.s.now.pieces c.loop-piece.piece-index
    (subst (λ l. length l ≤ c.loop-piece.piece-index) c.as_slice-piece-items.ensures c.loop-piece-test.false) c.loop-piece.invariant in
    ((λ t. subst (λ b. All (IsInTime c.args.jobs.now c.args.s.now.unit b) c.args.s.now.pieces) (to_z-of_z w64 c.args.bound c.ranges.bound) (whole.0 t)), (λ t. refl))
