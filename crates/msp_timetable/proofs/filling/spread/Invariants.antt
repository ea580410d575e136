use Rattle.msp_timetable.proofs.Fills.{IsSpreadBelow}
use Rattle.msp_timetable.proofs.filling.spread.Given as goal

-- the rows so far are copied
abbrev pub invariant-loop-row : goal.invariant-loop-row
invariant-loop-row l = IsSpreadBelow l.size l.matrix l.given l.row
