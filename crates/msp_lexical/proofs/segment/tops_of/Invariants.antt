use Rattle.std.proofs.Common.{slice_index}
use Rattle.msp_lexical.specs.Slots.{first_in, second_in}
use Rattle.msp_lexical.proofs.TopSteps.{IsTopping}
use Rattle.msp_lexical.proofs.segment.tops_of.Given as goal

-- the least labels from the slot on
abbrev pub invariant-loop-slot : goal.invariant-loop-slot
invariant-loop-slot l = IsTopping l.jobs l.count (slice_index l.labels) (first_in l.seats) (second_in l.seats) l.slot l.next l.tops

abbrev pub decreases-loop-slot : goal.decreases-loop-slot
decreases-loop-slot l = l.slot
