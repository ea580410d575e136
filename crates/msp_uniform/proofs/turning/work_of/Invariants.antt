use Rattle.std.proofs.Common.{◌≡◌, take}
use Rattle.msp_uniform.specs.Segments.{at, rate_at, amount}
use Rattle.msp_uniform.proofs.turning.work_of.Given as goal

abbrev pub invariant-loop-segment : goal.invariant-loop-segment
invariant-loop-segment l = l.work ≡ amount (rate_at (at l.speeds) l.place) (take l.segment-index l.segments)
