use Rattle.msp_assign.proofs.Passes.{IsPassing}
use Rattle.msp_assign.proofs.augmenting.pass_on.Given as goal

-- back at a row of the tree
abbrev pub invariant-back : goal.invariant-back
invariant-back l = IsPassing l.fn.columns l.from l.tree l.columns l.place

abbrev pub decreases-back : goal.decreases-back
decreases-back l = l.place
