-- How the pieces of a schedule are read.
use Rattle.std.specs.Prelude.{◌≡◌, ℕ, ◌<◌, ◌⊎◌, ℤ, pos, nat_abs, ◌-ℤ◌, ◌≤ℤ◌, List, filter, slice_index_or, ◌==◌, ◌&&◌}
use Rattle.msp_pieces.specs.declared.Piece.{Piece}
use Rattle.msp_pieces.specs.declared.Schedule.{Schedule}

-- The piece of a number, from 0. What is read where there is none has no length.
abbrev pub no_piece : Piece
no_piece = record { job = 0; op = 0; machine = 0; from = pos 0; to = pos 0 }

abbrev pub piece_at : List Piece → ℕ → Piece
piece_at pieces k = slice_index_or pieces k no_piece

-- How long a piece lasts, in parts of the unit.
abbrev pub length_of : Piece → ℤ
length_of p = p.to -ℤ p.from

-- One piece ends no later than the other begins.
abbrev pub IsBefore : Piece → Piece → Type 0
IsBefore p q = p.to ≤ℤ q.from

-- The two pieces do not overlap.
abbrev pub IsApart : Piece → Piece → Type 0
IsApart p q = IsBefore p q ⊎ IsBefore q p

-- The pieces of an operation of a job.
abbrev pub pieces_of : Schedule → ℕ → ℕ → List Piece
pieces_of s j o = filter (λ p. (p.job == j) && (p.op == o)) s.pieces

-- The job of a piece, and the moments at which it begins and ends as natural numbers.
abbrev pub job_of : Piece → ℕ
job_of p = p.job

abbrev pub start : Piece → ℕ
start p = nat_abs p.from

abbrev pub finish : Piece → ℕ
finish p = nat_abs p.to

-- The piece begins and ends at natural numbers, and lasts.
pub record IsTimed (p : Piece) : Type 0 where
  pub from : p.from ≡ pos (start p)
  pub to : p.to ≡ pos (finish p)
  pub lasts : start p < finish p
