-- The form in which a schedule is reported.
use Rattle.std.specs.Prelude.{◌≡◌, ℕ, ◌≤◌, ◌⊎◌, ◌<ℤ◌, map, All, AllPairs, IsPermutation, unsigned_abs}
use Prim.Native.Nat.{◌∣◌}
use Rattle.msp_pieces.specs.declared.Piece.{Piece}
use Rattle.msp_pieces.specs.declared.Schedule.{Schedule}
use Rattle.msp_pieces.specs.Divisor.{IsCommonDivisor, part_of, divided}

-- One piece is reported before the other: it begins earlier, or at the same moment on a machine that is not later.
abbrev pub IsReportedFirst : Piece → Piece → Type 0
IsReportedFirst p q = (p.from <ℤ q.from) ⊎ ((p.from ≡ q.from) × (p.machine ≤ q.machine))

-- Unit and moments have no common divisor above 1, and the pieces stand in the order of a report.
pub record IsSettled (s : Schedule) : Type 0 where
  pub lowest : (d : ℕ) → d ∣ unsigned_abs s.unit → All (λ p. (d ∣ unsigned_abs p.from) × (d ∣ unsigned_abs p.to)) s.pieces → d ≡ 1
  pub order : AllPairs IsReportedFirst s.pieces

-- The new schedule is the old one with unit and moments divided by their greatest common divisor, and its pieces in some order.
pub record IsSettledFrom (old new : Schedule) : Type 0 where
  pub divisor : ℕ
  pub greatest : IsCommonDivisor old.unit old.pieces divisor
  pub unit : new.unit ≡ part_of divisor old.unit
  pub pieces : IsPermutation (map (divided divisor) old.pieces) new.pieces
