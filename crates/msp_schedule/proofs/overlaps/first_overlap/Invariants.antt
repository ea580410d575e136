-- The first overlap so far.
use Rattle.msp_schedule.specs.Lanes.{lane_of, IsFirstOverlapBelow}
use Rattle.msp_schedule.proofs.overlaps.first_overlap.Given as goal

abbrev pub invariant-loop-second : goal.invariant-loop-second
invariant-loop-second l = IsFirstOverlapBelow (lane_of l.lane) l.pieces l.second l.best
