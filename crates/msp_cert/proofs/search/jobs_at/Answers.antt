use Rattle.std.proofs.Common.{arith}
use Rattle.msp_cert.proofs.Tails.{AreCounted-next, counted_few}
use Rattle.msp_cert.proofs.search.jobs_at.Goals as goal

pub loop-k-preserved : goal.loop-k-preserved
loop-k-preserved c = AreCounted-next _ _ _ c.loop-k.invariant c.loop-k-test.true (c.requires.small c.loop-k.k 0 c.loop-k-test.true)

pub overflow_add-counts : goal.overflow_add-counts
overflow_add-counts c =
    let few = counted_few c.args.level.now c.loop-k.counts c.loop-k.k _ c.loop-k.invariant (omega (arith, c.loop-k-test.true)) (c.requires.small c.loop-k.k 0 c.loop-k-test.true) in
    omega (arith, few, c.requires.few, c.loop-k-test.true)
