use Rattle.std.proofs.Common.{◌≡◌, map, take}
use Rattle.msp_due.specs.Steps.{long_piece}
use Rattle.msp_due.proofs.rule.long_pieces.Given as goal

-- the pieces so far
abbrev pub invariant-loop-piece : goal.invariant-loop-piece
invariant-loop-piece l = l.long ≡ map (long_piece l.time) (take l.piece-index l.pieces)
