use Rattle.std.proofs.Common.{◌<◌}
use Rattle.msp_uniform.specs.Segments.{at, rate_at, amount}
use Rattle.msp_uniform.proofs.turning.place_for.Given as goal

abbrev pub invariant-places : goal.invariant-places
invariant-places l = record {
  inside : l.place < l.places;
  less : amount (rate_at (at l.speeds) l.place) l.segments < l.work;
}

abbrev pub decreases-places : goal.decreases-places
decreases-places l = l.place
