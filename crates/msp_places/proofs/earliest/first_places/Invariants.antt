-- the places so far
use Rattle.msp_places.proofs.Turns.{AreFirstBelow}
use Rattle.msp_places.proofs.earliest.first_places.Given as goal

abbrev pub invariant-loop-machine : goal.invariant-loop-machine
invariant-loop-machine l = AreFirstBelow l.lengths l.machine l.first.items
