-- The pieces so far are in time.
use Rattle.std.proofs.Common.{All, take}
use Rattle.msp_plain.specs.Threshold.{IsInTime}
use Rattle.msp_plain.proofs.threshold.all_in_time.Given as goal

abbrev pub invariant-loop-piece : goal.invariant-loop-piece
invariant-loop-piece l = All (IsInTime l.jobs l.s.unit l.bound) (take l.piece-index l.s.pieces)
