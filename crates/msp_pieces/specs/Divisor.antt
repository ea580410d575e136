-- Common divisors of the numbers of a schedule.
use Rattle.std.specs.Prelude.{ℕ, ◌/◌, List, ℤ, pos, All, unsigned_abs}
use Prim.Native.Nat.{◌∣◌}
use Rattle.msp_pieces.specs.declared.Piece.{Piece}

-- The number divides the unit and all moments.
abbrev pub DividesAll : ℕ → ℤ → List Piece → Type 0
DividesAll d unit pieces = (d ∣ unsigned_abs unit) × All (λ p. (d ∣ unsigned_abs p.from) × (d ∣ unsigned_abs p.to)) pieces

-- The greatest common divisor of the unit and all moments: it divides them, and each number that does divides it.
pub record IsCommonDivisor (unit : ℤ) (pieces : List Piece) (g : ℕ) : Type 0 where
  pub all : DividesAll g unit pieces
  pub greatest : (d : ℕ) → DividesAll d unit pieces → d ∣ g

-- The moment divided, where it is at least 0.
abbrev pub part_of : ℕ → ℤ → ℤ
part_of g x = pos (unsigned_abs x / g)

-- The piece with both moments divided.
abbrev pub divided : ℕ → Piece → Piece
divided g p = record p { from = part_of g p.from; to = part_of g p.to }
