-- What the tests of rows need: a drawn instance is an inner one, a row alone is a chain, and a schedule of early moments is within the bounds of one that is brought back.
use Rattle.std.proofs.Common.{◌≡◌, ℕ, ◌≤◌, ◌∷◌, [], length, All, Option, Some, None, IsTrue, IsSome, inr, ℤ, pos, ◌≤ℤ◌, refl, arith}
use Rattle.std.proofs.lemmas.Bool.{false≢true}
use Rattle.std.proofs.lemmas.Int.{ints}
use Rattle.msp_class.specs.declared.class.Class.{Class}
use Rattle.msp_class.specs.declared.environments.EnvKind.{EnvKind}
use Rattle.msp_class.specs.declared.environments.EnvKind.TheVariants.{Identical}
use Rattle.msp_class.specs.Env.{kind_of}
use Rattle.msp_instance.specs.declared.Instance.{Instance}
use Rattle.msp_instance.proofs.Limits.{Inner-from_class}
use Rattle.msp_class.specs.declared.sizes.TheConstants.{MOST_PIECES}
use Rattle.msp_pieces.specs.declared.limits.TheConstants.{GREATEST_CARRIED_UNIT}
use Rattle.msp_pieces.specs.declared.Piece.{Piece}
use Rattle.msp_pieces.specs.declared.Schedule.{Schedule}
use Rattle.msp_pieces.specs.Within.{IsMoment, Within}
use Rattle.msp_table.specs.Rows.{carries, goes_of}
use Rattle.msp_table.specs.Chains.{stay, step}
use Rattle.msp_route.specs.Bounds.{IsSized, greatest_unit}
use Rattle.msp_route.specs.declared.bounds.TheConstants.{GREATEST_ANSWER_MOMENT}
use Rattle.msp_carry.specs.Carried.{IsChain}

-- ---- one row
one_row : (i : Instance) (k : ℕ) (led : Option Class) → IsTrue (carries k) → goes_of k i.class ≡ led → IsSome led → IsChain i (k ∷ [])
one_row i k (Some c) is leads some = (c, record { leads = step is leads stay; few = omega arith })
one_row i k None is leads some = absurd (false≢true some)

pub row_chain : (i : Instance) (k : ℕ) → IsTrue (carries k) → IsSome (goes_of k i.class) → IsChain i (k ∷ [])
row_chain i k is some = one_row i k (goes_of k i.class) is refl some

-- ---- drawn instances
pub ruleset drawn_rules = (Inner-from_class)

-- ---- early moments
abbrev pub IsEarly : Piece → Type 0
IsEarly p = (pos 0 ≤ℤ p.from) × (p.from ≤ℤ p.to) × (p.to ≤ℤ GREATEST_ANSWER_MOMENT)

moments : (from to : ℤ) → (pos 0 ≤ℤ from) × (from ≤ℤ to) × (to ≤ℤ GREATEST_ANSWER_MOMENT) → IsMoment from × IsMoment to
moments from to early = ((omega (arith, ints, early), omega (arith, ints, early)), (omega (arith, ints, early), omega (arith, ints, early)))

unit-fits : (k : EnvKind) → GREATEST_CARRIED_UNIT ≤ℤ greatest_unit k
unit-fits Identical = omega (arith, ints)
unit-fits _ = omega (arith, ints)

below : (x y z : ℤ) → x ≤ℤ y → y ≤ℤ z → x ≤ℤ z
below x y z a b = omega (arith, ints, a, b)

pub small_sized : (i : Instance) (s : Schedule) → pos 1 ≤ℤ s.unit → s.unit ≤ℤ GREATEST_CARRIED_UNIT → length s.pieces ≤ MOST_PIECES → IsSized i s
small_sized i s least most few = record { few = few; unit = below s.unit GREATEST_CARRIED_UNIT _ most (unit-fits (kind_of i.class.env)) }

pub small_within : (i : Instance) (s : Schedule) → pos 1 ≤ℤ s.unit → s.unit ≤ℤ GREATEST_CARRIED_UNIT → length s.pieces ≤ MOST_PIECES → All IsEarly s.pieces → Within i s
small_within i s least most few early = record {
  unit = (least, omega (arith, ints, most));
  few = few;
  moments = λ k d l. moments _ _ (early k d l);
  scaled = λ e. inr most;
}
