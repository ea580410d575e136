-- No piece so far is overlapped.
use Rattle.std.proofs.Common.{ℕ, ◌<◌}
use Rattle.msp_schedule.specs.Breaks.{Overlaps}
use Rattle.msp_schedule.specs.Lanes.{lane_of}
use Rattle.msp_schedule.proofs.overlaps.overlapped.Given as goal

abbrev pub invariant-loop-first : goal.invariant-loop-first
invariant-loop-first l = (k : ℕ) → k < l.first → ¬ Overlaps (lane_of l.lane) l.pieces k l.second
