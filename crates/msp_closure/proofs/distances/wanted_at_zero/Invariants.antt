-- What the loop of `wanted_at_zero` keeps.
use Rattle.msp_closure.proofs.AdvanceLemmas.{StartsAt}
use Rattle.msp_closure.proofs.distances.wanted_at_zero.Given as goal

abbrev pub invariant-loop-c : goal.invariant-loop-c
invariant-loop-c l = StartsAt l.wanted l.table l.c-index
