-- The last end over the pieces so far.
use Rattle.std.proofs.Common.{take}
use Rattle.msp_schedule.specs.Begins.{IsEarlierEnd}
use Rattle.msp_schedule.proofs.breaks.earlier_end.Given as goal

abbrev pub invariant-loop-p : goal.invariant-loop-p
invariant-loop-p l = IsEarlierEnd (take l.p-index l.pieces) l.job l.op l.end
