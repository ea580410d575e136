use Rattle.std.proofs.Common.{◌-◌, ◌≤◌, length}
use Rattle.msp_assign.specs.Search.{sizes, IsPlaced}
use Rattle.msp_assign.specs.Square.{AreMarked}
use Rattle.msp_assign.proofs.square.fill.Given as goal

-- the rows so far have columns
abbrev pub invariant-rows : goal.invariant-rows
invariant-rows g l = record {
  placed : IsPlaced (sizes (g.C.Costs.cost l.costs)) (g.C.Costs.column_count l.costs) l.falls.items l.column_of.items;
  marked : AreMarked (g.C.Costs.column_count l.costs) l.column_of.items l.taken.items;
  few : length l.column_of.items ≤ g.C.Costs.column_count l.costs;
}

abbrev pub decreases-rows : goal.decreases-rows
decreases-rows g l = l.columns - length l.column_of.items
