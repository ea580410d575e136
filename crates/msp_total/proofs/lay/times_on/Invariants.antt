-- the times of the places so far
use Rattle.std.proofs.Common.{◌≡◌, length, take}
use Rattle.msp_class.specs.declared.sizes.TheConstants.{MOST_MACHINES}
use Rattle.msp_total.proofs.LaySteps.{AreTimes}
use Rattle.msp_total.proofs.lay.times_on.Given as goal

abbrev pub invariant-loop-place : goal.invariant-loop-place
invariant-loop-place l = record { size : length l.times ≡ MOST_MACHINES; times : AreTimes l.times (take l.place-index l.places) }
