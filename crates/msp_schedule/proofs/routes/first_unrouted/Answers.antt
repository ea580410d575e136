use Rattle.std.proofs.Common.{below_more}
use Rattle.msp_schedule.specs.Breaks.{KeepsRoute}
use Rattle.msp_schedule.proofs.routes.first_unrouted.Goals as goal

pub loop-op-preserved : goal.loop-op-preserved
loop-op-preserved c = below_more (KeepsRoute c.args.pieces.now c.args.job) c.loop-op.op c.loop-op.invariant (c.keeps_route.ensures.0 c.if-not-keeps_route.false)
