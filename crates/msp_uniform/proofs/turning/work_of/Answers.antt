use Rattle.std.proofs.Common.{arith}
use Rattle.msp_uniform.proofs.ScaledFacts.{work_short}
use Rattle.msp_uniform.proofs.turning.work_of.Goals as goal

pub overflow_add-work : goal.overflow_add-work
overflow_add-work c =
    let short = work_short _ _ _ _ _ _ _ c.requires.speeds c.requires.places c.requires.short c.loop-segment-test.true c.segment-item.is c.loop-segment.invariant c.gain_of.ensures.value in
    omega (arith, short)
