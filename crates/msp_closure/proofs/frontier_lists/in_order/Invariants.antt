-- What the loop of `in_order` keeps.
use Rattle.msp_closure.proofs.FrontierLemmas.{ListedBelow}
use Rattle.msp_closure.proofs.frontier_lists.in_order.Given as goal

abbrev pub invariant-loop-n : goal.invariant-loop-n
invariant-loop-n l = ListedBelow l.table l.classes l.n
