-- The pieces so far have their place.
use Rattle.std.proofs.Common.{ℕ, ◌<◌}
use Rattle.msp_pieces.specs.Feasible.{HasPlace}
use Rattle.msp_pieces.specs.Piece.{piece_at}
use Rattle.msp_schedule.proofs.breaks.first_misplaced.Given as goal

abbrev pub invariant-loop-at : goal.invariant-loop-at
invariant-loop-at l = (k : ℕ) → k < l.at → HasPlace l.inst (piece_at l.pieces k)
