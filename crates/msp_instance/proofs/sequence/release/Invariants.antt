use Rattle.std.proofs.Common.{length, take}
use Rattle.msp_instance.proofs.OrderLemmas.{IsReleasing}
use Rattle.msp_instance.proofs.sequence.release.Given as goal

abbrev pub invariant-loop-a : goal.invariant-loop-a
invariant-loop-a l = IsReleasing (length l.initial.counts) (take l.a-index l.leaving) l.initial.counts l.initial.order.items l.counts l.order.items
