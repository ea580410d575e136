-- Each job's first beginning over the pieces so far.
use Rattle.std.proofs.Common.{take}
use Rattle.msp_schedule.specs.Begins.{AreBegins}
use Rattle.msp_schedule.proofs.arcs.begins_of.Given as goal

abbrev pub invariant-loop-piece : goal.invariant-loop-piece
invariant-loop-piece l = AreBegins l.begins (take l.piece-index l.pieces)
