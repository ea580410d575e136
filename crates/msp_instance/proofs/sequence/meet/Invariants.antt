use Rattle.std.proofs.Common.{length, take}
use Rattle.msp_instance.proofs.SearchLemmas.{IsMeeting}
use Rattle.msp_instance.proofs.sequence.meet.Given as goal

abbrev pub invariant-loop-a : goal.invariant-loop-a
invariant-loop-a l = IsMeeting (length l.initial.seen) (take l.a-index l.leaving) l.initial.found.items l.seen l.found.items
