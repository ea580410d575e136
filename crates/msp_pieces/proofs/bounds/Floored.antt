-- The pieces of a schedule each of which was moved to begin at a whole number of units and to last one unit.
use Rattle.std.proofs.Common.{◌≡◌, ℕ, ◌+◌, ◌*◌, ◌/◌, get_or, pos, nat_abs, ◌+ℤ◌, ◌*ℤ◌, ◌≤ℤ◌, All, ap, arith}
use Rattle.std.proofs.lemmas.Int.{ints}
use Rattle.std.proofs.lemmas.List.Elements.{All-map}
use Rattle.msp_class.proofs.IntegerRing.{natural}
use Rattle.msp_pieces.specs.declared.Piece.{Piece}
use Rattle.msp_pieces.specs.declared.Schedule.{Schedule}
use Rattle.msp_pieces.specs.Laws.{floored, floored_piece}

-- it begins at a multiple of the unit and lasts one unit
abbrev pub FillsUnit : ℕ → Piece → Type 0
FillsUnit unit p = (q : ℕ) × (p.from ≡ pos (unit * q)) × (p.to ≡ pos (unit * q + unit))

pub floored-fills : (s : Schedule) → pos 1 ≤ℤ s.unit → All (FillsUnit (nat_abs s.unit)) (floored s).pieces
floored-fills s h = All-map (FillsUnit (nat_abs s.unit)) (floored_piece s.unit) s.pieces (λ k d l.
    let q = nat_abs (get_or s.pieces k d).from / nat_abs s.unit in (q, ap (λ u. u *ℤ pos q) is, ap (λ u. (u *ℤ pos q) +ℤ u) is))
  where
    is : s.unit ≡ pos (nat_abs s.unit)
    is = natural s.unit (omega (arith, ints))
