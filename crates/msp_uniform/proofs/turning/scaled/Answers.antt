use Rattle.std.proofs.Common.{◌*◌, ◌≤◌, arith}
use Rattle.msp_uniform.specs.Segments.{greatest_length}
use Rattle.msp_uniform.proofs.ScaledFacts.{scaled_next, AreScaledUpTo-next}
use Rattle.msp_uniform.proofs.turning.scaled.Goals as goal

pub overflow_mul-length : goal.overflow_mul-length
overflow_mul-length c =
    let short = scaled_next _ _ _ _ _ _ c.in-Some.ensures.items c.ahead.invariant (λ x. x.length * c.args.factor ≤ greatest_length) c.requires in
    omega (arith, short)

pub ahead-preserved : goal.ahead-preserved
ahead-preserved c = AreScaledUpTo-next _ _ _ _ _ _ c.in-Some.ensures.items c.ahead.invariant _ _ c.lasting.ensures c.in_ok-push_back.ensures.items
