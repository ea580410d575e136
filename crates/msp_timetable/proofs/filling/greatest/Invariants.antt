use Rattle.msp_timetable.proofs.Greatest.{IsGreatestBelow}
use Rattle.msp_timetable.proofs.filling.greatest.Given as goal

-- the greatest of the lines so far
abbrev pub invariant-loop-line : goal.invariant-loop-line
invariant-loop-line l = IsGreatestBelow l.size l.given l.line l.most
