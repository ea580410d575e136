use Rattle.std.proofs.Common.{◌+◌, ◌-◌, ◌*◌}
use Rattle.msp_timetable.proofs.Fills.{IsCorner}
use Rattle.msp_timetable.proofs.filling.pad.Given as goal

-- filled up to the corner
abbrev pub invariant-corners : goal.invariant-corners
invariant-corners l = IsCorner l.size l.fn.lacks.rows.items l.fn.lacks.columns.items l.padding.items l.lacks.rows.items l.lacks.columns.items l.row l.column

abbrev pub decreases-corners : goal.decreases-corners
decreases-corners l = 2 * l.size - (l.row + l.column)
