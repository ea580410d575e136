-- the places so far
use Rattle.std.proofs.Common.{◌≡◌, ℕ, ◌<◌, length}
use Rattle.msp_total.specs.Places.{place_at}
use Rattle.msp_total.specs.Columns.{chosen_at, IsPlaceOf}
use Rattle.msp_total.proofs.unrelated.places_of.Given as goal

abbrev pub invariant-loop-c : goal.invariant-loop-c
invariant-loop-c l = record {
  count : length l.places.items ≡ l.c-index;
  places : (r : ℕ) → r < l.c-index → IsPlaceOf l.table (chosen_at l.chosen r) (place_at l.places.items r);
}
