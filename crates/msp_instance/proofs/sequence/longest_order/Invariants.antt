use Rattle.std.proofs.Common.{◌-◌}
use Rattle.msp_instance.proofs.OrderLemmas.{IsPassing}
use Rattle.msp_instance.proofs.sequence.longest_order.Given as goal

abbrev pub invariant-loop-done : goal.invariant-loop-done
invariant-loop-done l = IsPassing l.jobs l.sorted l.counts l.order.items l.done

abbrev pub decreases-loop-done : goal.decreases-loop-done
decreases-loop-done l = l.jobs - l.done
