-- Some block holds the job.
use Rattle.msp_trees.proofs.Picks.{not_here-next, not_nowhere}
use Rattle.msp_trees.proofs.joining.place_of.Goals as goal

pub loop-place-preserved : goal.loop-place-preserved
loop-place-preserved c = not_here-next c.args.blocks.now c.args.job c.loop-place.place c.index-blocks-place.result c.as_slice.result.now
    c.contains.result c.loop-place-test.true c.index-blocks-place.is c.as_slice.ensures c.contains.ensures.value c.if-contains.false c.loop-place.invariant

pub unreachable-requires : goal.unreachable-requires
unreachable-requires c = not_nowhere c.args.blocks.now c.args.job c.loop-place.place c.requires c.loop-place-test.false c.loop-place.invariant
