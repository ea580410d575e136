-- The pieces so far last.
use Rattle.std.proofs.Common.{ℕ, ◌<◌, ◌<ℤ◌}
use Rattle.msp_pieces.specs.Piece.{piece_at}
use Rattle.msp_schedule.proofs.breaks.first_empty.Given as goal

abbrev pub invariant-loop-at : goal.invariant-loop-at
invariant-loop-at l = (k : ℕ) → k < l.at → (piece_at l.pieces k).from <ℤ (piece_at l.pieces k).to
