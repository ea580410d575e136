use Rattle.std.proofs.Common.{◌≡◌, Bool, false, All, ℤ, pos, ◌*ℤ◌, ◌≤ℤ◌, ◌<ℤ◌, to_z, of_z, inl, inr, sym, subst, arith, below_more}
use Rattle.std.specs.Prelude.{IsTrue, ◌↔◌}
use Rattle.std.specs.Int.{w128}
use Rattle.std.proofs.lemmas.Int.{ints, to_z-of_z}
use Rattle.std.proofs.lemmas.List.Elements.{All-from_get_or}
use Rattle.msp_class.proofs.IntegerRing.{≤ℤ_total}
use Rattle.msp_instance.specs.declared.Instance.{Instance}
use Rattle.msp_instance.specs.Instance.{job_at}
use Rattle.msp_instance.specs.Conditions.{LiesWithin}
use Rattle.msp_pieces.specs.declared.Piece.{Piece}
use Rattle.msp_pieces.specs.Piece.{no_piece, piece_at}
use Rattle.msp_pieces.specs.Within.{greatest_scaled}
use Rattle.msp_schedule.specs.Breaks.{IsEarly, IsReleased, IsFirstPiece}
use Rattle.msp_schedule.proofs.breaks.first_early.Goals as goal

pub is_early-requires-clause-small : goal.is_early-requires-clause-small
is_early-requires-clause-small c =
    subst (λ u. LiesWithin greatest_scaled (u *ℤ pos (job_at c.args.inst.now (piece_at c.args.pieces.now c.loop-at.at).job).release))
    (sym (to_z-of_z w128 c.args.unit c.ranges.unit))
    (c.requires.small (piece_at c.args.pieces.now c.loop-at.at).job (c.requires.jobs c.loop-at.at no_piece c.loop-at-test.true))

-- a piece that is not early, and the first one that is
not_early : (i : Instance) (unit : ℤ) (p : Piece) (early : Bool) → early ≡ false → IsTrue early ↔ IsEarly i unit p → IsReleased i unit p
not_early i unit p early is h = elim (≤ℤ_total (unit *ℤ pos (job_at i p.job).release) p.from) [ inl a ↦ a | inr b ↦ let early_too = h.1 b in absurd (cc) ]

not_both : {a b : ℤ} → a ≤ℤ b → b <ℤ a → ⊥
not_both h l = omega (arith, ints)

pub returns-then-is_early-clause-some : goal.returns-then-is_early-clause-some
returns-then-is_early-clause-some c =
    subst (λ u. IsFirstPiece (IsEarly c.args.inst.now u) c.args.pieces.now c.loop-at.at) (to_z-of_z w128 c.args.unit c.ranges.unit)
    (record { inside = c.loop-at-test.true; holds = c.is_early.ensures.0 c.if-is_early.true; least = λ l below. not_both (c.loop-at.invariant l below) })

pub loop-at-preserved : goal.loop-at-preserved
loop-at-preserved c = below_more (λ k. IsReleased c.args.inst.now (to_z w128 (of_z w128 c.args.unit)) (piece_at c.args.pieces.now k)) c.loop-at.at c.loop-at.invariant
    (not_early c.args.inst.now _ (piece_at c.args.pieces.now c.loop-at.at) c.is_early.result c.if-is_early.false c.is_early.ensures)

pub returns-clause-none : goal.returns-clause-none
returns-clause-none c = λ e. subst (λ u. All (IsReleased c.args.inst.now u) c.args.pieces.now) (to_z-of_z w128 c.args.unit c.ranges.unit)
    (All-from_get_or (IsReleased c.args.inst.now (to_z w128 (of_z w128 c.args.unit))) c.args.pieces.now no_piece
    (λ k l. c.loop-at.invariant k (omega (arith, l, c.loop-at.auto.at-end, c.loop-at-test.false))))
