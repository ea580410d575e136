-- Pieces of jobs of one unit of time.
use Rattle.std.specs.Prelude.{ℕ, ◌+◌, pos}
use Rattle.msp_pieces.specs.declared.Piece.{Piece}

-- The job on the machine for the unit of time from the moment on.
abbrev pub piece_at : ℕ → ℕ → ℕ → Piece
piece_at moment machine j = record { job = j; op = 0; machine = machine; from = pos moment; to = pos (moment + 1) }
