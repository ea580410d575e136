use Rattle.std.proofs.Common.{below_more}
use Rattle.std.specs.Prelude.{slice_index_or}
use Rattle.msp_schedule.specs.Breaks.{KeepsArc, no_arc}
use Rattle.msp_schedule.proofs.breaks.first_arc.Goals as goal

pub loop-at-preserved : goal.loop-at-preserved
loop-at-preserved c = below_more (λ k. KeepsArc c.args.pieces.now (slice_index_or c.args.arcs.now k no_arc)) c.loop-at.at c.loop-at.invariant
    (c.keeps_arc.ensures.0 c.if-not-keeps_arc.false)
