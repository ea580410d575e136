use Rattle.msp_timetable.specs.Square.{IsSplitting}
use Rattle.msp_timetable.proofs.splitting.cut_all.Given as goal

-- the slices so far, and what is left
abbrev pub invariant-slices : goal.invariant-slices
invariant-slices l = IsSplitting l.matrix l.square l.seats.columns.items l.seats.owner.items l.slices.items l.left

abbrev pub decreases-slices : goal.decreases-slices
decreases-slices l = l.left
