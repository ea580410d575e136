use Rattle.std.proofs.Common.{take}
use Rattle.msp_lexical.specs.Slots.{IsSeating}
use Rattle.msp_lexical.proofs.segment.seats_of.Given as goal

-- the seats of the pieces so far
abbrev pub invariant-loop-piece : goal.invariant-loop-piece
invariant-loop-piece l = IsSeating l.jobs (take l.piece-index l.pieces) l.seats
