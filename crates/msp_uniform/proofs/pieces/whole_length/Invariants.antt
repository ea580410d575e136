use Rattle.std.proofs.Common.{◌≡◌, take, sum_by}
use Rattle.msp_uniform.proofs.pieces.whole_length.Given as goal

abbrev pub invariant-loop-segment : goal.invariant-loop-segment
invariant-loop-segment l = l.length ≡ sum_by (λ x. x.length) (take l.segment-index l.segments)
