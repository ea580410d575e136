-- What the loop of `first_near` keeps.
use Rattle.msp_closure.proofs.WayLemmas.{FarSoFar}
use Rattle.msp_closure.proofs.walk.first_near.Given as goal

abbrev pub invariant-loop-c : goal.invariant-loop-c
invariant-loop-c l = FarSoFar l.table l.starts l.c-index
