use Rattle.std.proofs.Common.{◌-◌}
use Rattle.msp_instance.proofs.SearchLemmas.{IsSearch}
use Rattle.msp_instance.proofs.sequence.leads_to_itself.Given as goal

abbrev pub invariant-loop-done : goal.invariant-loop-done
invariant-loop-done l = IsSearch l.jobs l.sorted l.start l.seen l.found.items l.done

abbrev pub decreases-loop-done : goal.decreases-loop-done
decreases-loop-done l = l.jobs - l.done
