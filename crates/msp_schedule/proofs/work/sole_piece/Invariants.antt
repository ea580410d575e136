-- The piece of the operation among those so far.
use Rattle.std.proofs.Common.{◌≡◌, take}
use Rattle.msp_schedule.specs.Breaks.{pieces_among}
use Rattle.msp_schedule.proofs.judging.Among.{listed}
use Rattle.msp_schedule.proofs.work.sole_piece.Given as goal

abbrev pub invariant-loop-piece : goal.invariant-loop-piece
invariant-loop-piece l = pieces_among (take l.piece-index l.pieces) l.job l.op ≡ listed l.sole
