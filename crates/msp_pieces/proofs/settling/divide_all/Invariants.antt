use Rattle.std.proofs.Common.{map}
use Rattle.msp_pieces.specs.Divisor.{divided}
use Rattle.msp_pieces.proofs.changes.SettledSchedules.{Halfway}
use Rattle.msp_pieces.proofs.settling.divide_all.Given as goal

abbrev pub invariant-loop-piece : goal.invariant-loop-piece
invariant-loop-piece l = Halfway l.fn.pieces.items (map (divided l.divisor) l.fn.pieces.items) l.piece-items l.piece-index
