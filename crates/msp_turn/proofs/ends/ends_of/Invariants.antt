-- The ends of the jobs over the pieces so far.
use Rattle.std.proofs.Common.{◌≡◌, take}
use Rattle.msp_turn.proofs.EndOrder.{ends_over}
use Rattle.msp_turn.proofs.ends.ends_of.Given as goal

abbrev pub invariant-loop-piece : goal.invariant-loop-piece
invariant-loop-piece l = l.slice ≡ ends_over l.count (take l.piece-index l.pieces)
