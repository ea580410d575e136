use Rattle.std.proofs.Common.{◌≡◌, ◌-◌}
use Rattle.msp_lexical.specs.Slots.{first_in, second_in, pairs}
use Rattle.msp_lexical.proofs.segment.segment_of.Given as goal

-- both jobs of the slots so far
abbrev pub invariant-loop-slot : goal.invariant-loop-slot
invariant-loop-slot l = l.jobs ≡ pairs (first_in l.seats) (second_in l.seats) l.from (l.slot - l.from)
