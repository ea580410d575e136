use Rattle.std.proofs.Common.{take}
use Rattle.msp_pieces.proofs.costs.Ends.{EndsOver}
use Rattle.msp_pieces.proofs.total_cost.ends_of.Given as goal

-- each job's end over the pieces so far
abbrev pub invariant-loop-piece : goal.invariant-loop-piece
invariant-loop-piece l = EndsOver l.ends (take l.piece-index l.pieces)
