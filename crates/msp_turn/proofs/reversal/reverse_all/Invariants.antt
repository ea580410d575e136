-- The pieces before the place are reversed, the others are as they were.
use Rattle.std.proofs.Common.{◌≡◌, ◌++◌, map, take, drop}
use Rattle.msp_turn.specs.Reversal.{reversed_piece}
use Rattle.msp_turn.proofs.reversal.reverse_all.Given as goal

abbrev pub invariant-loop-piece : goal.invariant-loop-piece
invariant-loop-piece l = l.pieces ≡ map (reversed_piece l.last) (take l.piece-index l.initial.pieces) ++ drop l.piece-index l.initial.pieces
