use Rattle.msp_assign.specs.Search.{sizes}
use Rattle.msp_assign.proofs.Squares.{IsCheapestSoFar}
use Rattle.msp_assign.proofs.square.cheapest_free.Given as goal

-- of the columns so far
abbrev pub invariant-loop-column : goal.invariant-loop-column
invariant-loop-column g l = IsCheapestSoFar (sizes (g.C.Costs.cost l.costs)) l.falls l.taken l.row l.column l.best
