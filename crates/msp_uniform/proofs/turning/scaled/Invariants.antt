use Rattle.std.proofs.Common.{length}
use Rattle.msp_uniform.specs.Segments.{AreScaledUpTo}
use Rattle.msp_uniform.proofs.turning.scaled.Given as goal

-- the segments so far are over the finer unit
abbrev pub invariant-ahead : goal.invariant-ahead
invariant-ahead l = AreScaledUpTo l.factor l.fn.segments.items l.ahead.items l.all.items

abbrev pub decreases-ahead : goal.decreases-ahead
decreases-ahead l = length l.ahead.items
