use Rattle.std.proofs.Common.{refl}
use Rattle.msp_lexical.proofs.Counts.{IsReleasing-start, IsReleasing-next, earlier_arc}
use Rattle.msp_lexical.proofs.links.release.Goals as goal

pub loop-number-init : goal.loop-number-init
loop-number-init c =
    IsReleasing-start c.args.arcs.now c.args.job c.args.counts.now c.args.links.now.last c.args.links.now.earlier.items c.requires.links _ c.told-counts c.requires.job refl

pub loop-number-smaller : goal.loop-number-smaller
loop-number-smaller c =
    earlier_arc c.args.arcs.now c.args.job c.args.counts.now c.args.links.now.last c.args.links.now.earlier.items c.requires.links c.loop-number.counts
    c.loop-number.number _ c.index-number.result.now c.loop-number.invariant c.loop-number-test.true c.requires.ends c.requires.counted refl c.index-number.ensures

pub loop-number-preserved : goal.loop-number-preserved
loop-number-preserved c =
    IsReleasing-next c.args.arcs.now c.args.job c.args.counts.now c.args.links.now.last c.args.links.now.earlier.items c.requires.links c.loop-number.counts
    c.loop-number.number _ c.index-number.result.now c.loop-number.invariant c.loop-number-test.true c.requires.ends c.requires.counted refl c.index-number.ensures
