-- the cheapest of the jobs so far
use Rattle.msp_places.specs.Search.{IsBestOf}
use Rattle.msp_places.proofs.most.cheapest.Given as goal

abbrev pub invariant-loop-place : goal.invariant-loop-place
invariant-loop-place l = IsBestOf l.inst l.unit l.end l.left l.place l.best
