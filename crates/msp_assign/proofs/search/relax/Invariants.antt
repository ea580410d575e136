use Rattle.msp_assign.specs.declared.search.TheConstants.{FAR}
use Rattle.msp_assign.specs.Search.{sizes}
use Rattle.msp_assign.proofs.Relaxed.{IsRelaxing}
use Rattle.msp_assign.proofs.search.relax.Given as goal

-- the columns so far are relaxed
abbrev pub invariant-loop-k : goal.invariant-loop-k
invariant-loop-k g l =
    IsRelaxing (sizes (g.C.Costs.cost l.costs)) l.falls l.reached.row l.reached.place l.reached.depth l.reached.own l.left l.initial.distance l.initial.from
    FAR l.distance l.from l.k l.least
