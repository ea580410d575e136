use Rattle.std.proofs.Common.{◌≡◌, map, take}
use Rattle.msp_threshold.specs.Search.{piece_back}
use Rattle.msp_threshold.proofs.back.pieces_back.Given as goal

-- the pieces so far
abbrev pub invariant-loop-piece : goal.invariant-loop-piece
invariant-loop-piece l = l.pieces ≡ map (piece_back l.kept l.schedule.unit) (take l.piece-index l.schedule.pieces)
