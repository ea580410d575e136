use Rattle.std.proofs.Common.{length}
use Rattle.msp_assign.specs.Search.{sizes, IsUnderWay}
use Rattle.msp_assign.proofs.search.find_free.Given as goal

-- what is reached so far
abbrev pub invariant-reached : goal.invariant-reached
invariant-reached g l = IsUnderWay (sizes (g.C.Costs.cost l.costs)) (g.C.Costs.column_count l.costs) l.falls l.column_of l.search

-- a column fewer is left each time
abbrev pub decreases-reached : goal.decreases-reached
decreases-reached g l = length l.search.left.items
