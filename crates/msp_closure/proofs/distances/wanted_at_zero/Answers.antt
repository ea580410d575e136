-- The goals of `wanted_at_zero` that are proved by lemmas.
use Rattle.std.proofs.Common.{refl, arith}
use Rattle.msp_closure.proofs.AdvanceLemmas.{StartsAt-more}
use Rattle.msp_closure.proofs.distances.wanted_at_zero.Goals as goal

pub loop-c-preserved : goal.loop-c-preserved
loop-c-preserved c = rw (c.set.ensures.written) (StartsAt-more c.args.wanted.now c.loop-c.table c.loop-c.c-index _ _ (omega arith) refl c.loop-c.invariant)
