use Rattle.std.proofs.Common.{length}
use Rattle.msp_assign.specs.Prices.{AreFalls}
use Rattle.msp_assign.proofs.backward.falls_backward.Given as goal

abbrev pub invariant-loop-back : goal.invariant-loop-back
invariant-loop-back l = AreFalls (length l.ends) l.falls.items
