-- the first of the places so far
use Rattle.msp_places.proofs.Turns.{IsFirstBelow}
use Rattle.msp_places.proofs.earliest.earliest_of.Given as goal

abbrev pub invariant-loop-machine : goal.invariant-loop-machine
invariant-loop-machine l = IsFirstBelow l.next l.machine l.earliest
