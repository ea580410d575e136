use Rattle.std.proofs.Common.{refl}
use Rattle.msp_assign.proofs.Normal.{IsLeastTogether-next}
use Rattle.msp_assign.proofs.square.least_together.Goals as goal

pub loop-k-preserved : goal.loop-k-preserved
loop-k-preserved c = IsLeastTogether-next _ _ _ _ _ _ c.loop-k.invariant refl c.min-least.ensures
