-- What the loop of `keep_minimal` keeps.
use Rattle.msp_closure.proofs.FrontierLemmas.{MinimalBelow}
use Rattle.msp_closure.proofs.frontier_lists.keep_minimal.Given as goal

abbrev pub invariant-loop-n : goal.invariant-loop-n
invariant-loop-n l = MinimalBelow l.set l.left l.n
