use Rattle.std.proofs.Common.{◌-◌, length}
use Rattle.msp_assign.proofs.Placements.{IsPlacing}
use Rattle.msp_assign.proofs.placement.placed.Given as goal

-- the rows so far have columns in view
abbrev pub invariant-rows : goal.invariant-rows
invariant-rows g l = IsPlacing (g.L.Costs.row_count l.costs) (g.L.Lines.line_count l.costs) (g.L.Lines.line_length l.costs) (g.L.Costs.cost l.costs) l.columns.items l.falls.items l.column_of.items

abbrev pub decreases-rows : goal.decreases-rows
decreases-rows g l = l.rows - length l.column_of.items
