use Rattle.std.proofs.Common.{◌<◌}
use Rattle.msp_weighted.specs.Values.{values_of}
use Rattle.msp_weighted.proofs.WalkFacts.{IsWalk}
use Rattle.msp_weighted.proofs.walk.chosen.Given as goal

-- the way back so far
abbrev pub invariant-loop-place : goal.invariant-loop-place
invariant-loop-place l = record {
  walk : IsWalk l.inst l.order (values_of l.inst l.order l.moment) l.place l.choice.moment l.choice.on_time.items l.choice.left.items;
  early : l.choice.moment < l.width;
}

abbrev pub decreases-loop-place : goal.decreases-loop-place
decreases-loop-place l = l.place
