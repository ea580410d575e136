-- What the loop of `keep_maximal` keeps.
use Rattle.msp_closure.proofs.FrontierLemmas.{MaximalBelow}
use Rattle.msp_closure.proofs.frontier_lists.keep_maximal.Given as goal

abbrev pub invariant-loop-n : goal.invariant-loop-n
invariant-loop-n l = MaximalBelow l.set l.left l.n
