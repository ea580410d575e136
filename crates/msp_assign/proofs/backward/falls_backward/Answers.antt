use Rattle.std.proofs.Common.{arith}
use Rattle.msp_assign.proofs.Filling.{AreFalls-start, AreFalls-set}
use Rattle.msp_assign.proofs.backward.falls_backward.Goals as goal

pub loop-back-init : goal.loop-back-init
loop-back-init c = AreFalls-start _ _ (c.in_ok-falls.ensures.items_if_clones_equal (λ y q. q))

pub loop-back-preserved : goal.loop-back-preserved
loop-back-preserved c = AreFalls-set _ _ _ _ c.loop-back.invariant (omega arith) c.lower.ensures
