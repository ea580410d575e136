-- the places taken so far
use Rattle.msp_places.proofs.Turns.{HasTaken}
use Rattle.msp_places.proofs.earliest.places_by.Given as goal

abbrev pub invariant-loop-turn : goal.invariant-loop-turn
invariant-loop-turn l = HasTaken l.lengths l._turn l.places.items l.next.items
