-- the pieces so far, and the times that are left
use Rattle.std.proofs.Common.{◌≡◌, ◌++◌, length, drop}
use Rattle.msp_class.specs.declared.sizes.TheConstants.{MOST_MACHINES}
use Rattle.msp_total.specs.Places.{laid}
use Rattle.msp_total.proofs.LaySteps.{AreTimes}
use Rattle.msp_total.proofs.lay.lay.Given as goal

abbrev pub invariant-loop-place : goal.invariant-loop-place
invariant-loop-place l = record {
  pieces : l.pieces ++ laid (drop l.place-index l.places) ≡ laid l.places;
  size : length l.left ≡ MOST_MACHINES;
  left : AreTimes l.left (drop l.place-index l.places);
}
