use Rattle.std.proofs.Common.{◌≢◌, ℕ, ◌<◌, ◌≤◌, slice_index}
use Rattle.msp_lexical.specs.Slots.{first_in}
use Rattle.msp_lexical.proofs.segment.last_slot.Given as goal

-- the segment does not end before
abbrev pub invariant-loop-slot : goal.invariant-loop-slot
invariant-loop-slot l = (x : ℕ) → l.from ≤ x → x < l.slot → slice_index l.slots.tops x ≢ slice_index l.slots.labels (first_in l.slots.seats x)
