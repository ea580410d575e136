use Rattle.std.proofs.Common.{true}
use Rattle.msp_uniform.specs.Segments.{at, gain_at, IsSeeking}
use Rattle.msp_uniform.proofs.turning.last_gain.Given as goal

abbrev pub invariant-loop-segment : goal.invariant-loop-segment
invariant-loop-segment l = IsSeeking (gain_at true (at l.speeds) l.place) l.gain l.left l.segment-index l.segments
