use Rattle.std.proofs.Common.{below_more}
use Rattle.msp_cert.proofs.block.is_sound.Goals as goal

pub loop-k-preserved : goal.loop-k-preserved
loop-k-preserved c = below_more _ c.loop-k.k c.loop-k.invariant (c.is_backed.ensures.0 c.if-not-is_backed.false)
