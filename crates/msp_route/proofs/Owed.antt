-- What a solver owes of its schedule: a feasible answer is within the limits of a schedule, and when a schedule is an answer.
use Rattle.std.proofs.Common.{◌≡◌, ℕ, ◌*◌, ◌≤◌, length, ℤ, pos, ◌*ℤ◌, ◌≤ℤ◌, ◌<ℤ◌, All, inr, sym, ap₂, subst, subst₂, ◌∙◌, arith}
use Rattle.std.proofs.lemmas.Int.{ints}
use Rattle.msp_class.specs.declared.sizes.TheConstants.{MOST_PIECES, GREATEST_UNIT}
use Rattle.msp_class.specs.declared.environments.EnvKind.{EnvKind}
use Rattle.msp_class.specs.declared.environments.EnvKind.TheVariants.{Identical}
use Rattle.msp_class.specs.Env.{kind_of}
use Rattle.msp_class.proofs.IntegerRing.{pos-le, *ℤ-one}
use Rattle.msp_instance.specs.declared.Instance.{Instance}
use Rattle.msp_pieces.specs.declared.Schedule.{Schedule}
use Rattle.msp_pieces.specs.Piece.{finish, IsTimed}
use Rattle.msp_pieces.specs.Feasible.{Feasible}
use Rattle.msp_pieces.specs.Within.{IsMoment, Within}
use Rattle.msp_route.specs.declared.bounds.TheConstants.{GREATEST_ANSWER_MOMENT}
use Rattle.msp_route.specs.Bounds.{IsAnswer, answer_unit}

unit-most : (k : EnvKind) → answer_unit k ≤ℤ GREATEST_UNIT
unit-most Identical = omega (arith, ints)
unit-most _ = omega (arith, ints)

-- the unit 1 is one of an answer
pub unit_one : (k : EnvKind) → pos 1 ≤ℤ answer_unit k
unit_one Identical = omega (arith, ints)
unit_one _ = omega (arith, ints)

pub answer_is_within : (i : Instance) (s : Schedule) → Feasible i s → IsAnswer i s → Within i s
answer_is_within i s f a = record {
  unit = (f.unit, omega (arith, ints, a.unit, unit-most (kind_of i.class.env)));
  few = a.few;
  moments = λ k d l. moments _ _ (f.span k d l) (a.ends k d l);
  scaled = λ e. inr (subst (λ k. s.unit ≤ℤ answer_unit k) e a.unit);
}
  where
    moments : (from to : ℤ) → (pos 0 ≤ℤ from) × (from <ℤ to) → to ≤ℤ GREATEST_ANSWER_MOMENT → IsMoment from × IsMoment to
    moments from to span ends = ((span.0, omega (arith, ints, span.1, ends)), (omega (arith, ints, span.0, span.1), omega (arith, ints, ends)))

-- pieces that begin and end at natural numbers
pub timed_answer : (i : Instance) (s : Schedule) (end : ℕ) → s.unit ≤ℤ answer_unit (kind_of i.class.env) → length s.pieces ≤ MOST_PIECES
    → All IsTimed s.pieces → All (λ p. finish p ≤ end) s.pieces → pos end ≤ℤ GREATEST_ANSWER_MOMENT → IsAnswer i s
timed_answer i s end unit few timed ends soon =
    record { few = few; unit = unit; ends = λ k d l. omega (arith, ints, (timed k d l).to, ends k d l, soon) }

-- a cost over the unit 1 and one over a unit of its own, both by their natural numbers
pub over_units : (x y u : ℤ) (a b d : ℕ) → x ≡ pos a → y ≡ pos b → u ≡ pos d → d * a ≤ b → (x *ℤ u) ≤ℤ (y *ℤ pos 1)
over_units x y u a b d ex ey eu l =
    let turned : a * d ≤ b = omega (arith, l) in
    subst₂ (λ v w. v ≤ℤ w) (sym (ap₂ (λ v w. v *ℤ w) ex eu)) (sym (*ℤ-one y ∙ ey)) (pos-le turned)
