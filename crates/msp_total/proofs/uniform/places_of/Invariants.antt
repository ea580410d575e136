-- the places so far, and what the next job would count
use Rattle.std.proofs.Common.{◌≡◌, length, take}
use Rattle.msp_total.specs.Turns.{AreTurns, AreNext}
use Rattle.msp_total.proofs.uniform.places_of.Given as goal

abbrev pub invariant-loop-timed : goal.invariant-loop-timed
invariant-loop-timed l = record {
  count : length l.places.items ≡ l.timed-index;
  turns : AreTurns l.steps (take l.timed-index l.jobs) l.places.items;
  next : AreNext l.steps l.places.items l.next.items;
}
