use Rattle.std.proofs.Common.{take, slice_index}
use Rattle.msp_levels.specs.Steps.{IsOver}
use Rattle.msp_levels.proofs.level.level_over.Given as goal

-- one more than the greatest level over the arcs so far
abbrev pub invariant-loop-arc : goal.invariant-loop-arc
invariant-loop-arc l = IsOver (take l.arc-index l.arcs) (slice_index l.levels) l.job l.level
