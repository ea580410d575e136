use Rattle.std.proofs.Common.{◌-◌}
use Rattle.msp_lexical.specs.Slots.{AreCut}
use Rattle.msp_lexical.proofs.Cuts.{CutTo}
use Rattle.msp_lexical.proofs.segment.segments_of.Given as goal

-- the slots so far are cut into segments
abbrev pub invariant-loop-from : goal.invariant-loop-from
invariant-loop-from l = (c : AreCut l.inst l.slots.labels l.slots.seats l.slots.tops l.slots.count) → CutTo l.inst l.slots.labels l.slots.seats l.slots.tops l.slots.count c l.from l.segments

abbrev pub decreases-loop-from : goal.decreases-loop-from
decreases-loop-from l = l.slots.count - l.from
