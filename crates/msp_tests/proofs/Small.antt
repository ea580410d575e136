-- A schedule of early moments, for tests, is within the bounds of the calls that take schedules.
use Rattle.std.proofs.Common.{◌≡◌, ◌≤◌, length, All, inr, ℤ, pos, ◌≤ℤ◌, arith}
use Rattle.std.proofs.lemmas.Int.{ints}
use Rattle.msp_instance.specs.declared.Instance.{Instance}
use Rattle.msp_pieces.specs.declared.Piece.{Piece}
use Rattle.msp_pieces.specs.declared.Schedule.{Schedule}
use Rattle.msp_pieces.specs.Within.{IsMoment, Within}

abbrev pub IsEarly : Piece → Type 0
IsEarly p = (pos 0 ≤ℤ p.from) × (p.from ≤ℤ pos 9) × (pos 0 ≤ℤ p.to) × (p.to ≤ℤ pos 9)

moments : (from to : ℤ) → (pos 0 ≤ℤ from) × (from ≤ℤ pos 9) × (pos 0 ≤ℤ to) × (to ≤ℤ pos 9) → IsMoment from × IsMoment to
moments from to early = ((omega (arith, ints, early), omega (arith, ints, early)), (omega (arith, ints, early), omega (arith, ints, early)))

pub small_within : (i : Instance) (s : Schedule) → s.unit ≡ pos 1 → length s.pieces ≤ 2 → All IsEarly s.pieces → Within i s
small_within i s is few early = record {
  unit = (omega (arith, ints, is), omega (arith, ints, is));
  few = omega (arith, few);
  moments = λ k d l. moments _ _ (early k d l);
  scaled = λ e. inr (omega (arith, ints, is));
}
