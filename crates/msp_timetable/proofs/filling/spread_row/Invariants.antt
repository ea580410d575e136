use Rattle.msp_timetable.proofs.Fills.{IsSpreading}
use Rattle.msp_timetable.proofs.filling.spread_row.Given as goal

-- the cells so far are copied
abbrev pub invariant-loop-column : goal.invariant-loop-column
invariant-loop-column l = IsSpreading l.size l.matrix l.row l.initial.given l.given l.column
