use Rattle.std.proofs.Common.{◌∙◌, refl, arith, slice_index_or}
use Rattle.std.proofs.lemmas.List.{length-set}
use Rattle.msp_total.specs.Places.{no_place}
use Rattle.msp_total.proofs.LaySteps.{left_over, left-small, left-next, pieces-next}
use Rattle.msp_total.proofs.lay.lay.Goals as goal

pub put-requires-clause-end : goal.put-requires-clause-end
put-requires-clause-end c =
    let p = slice_index_or c.args.places.now c.loop-place.place-index no_place in
    let at = c.requires.1 c.loop-place.place-index no_place c.loop-place-test.true in
    omega (arith, left-small c.args.places.now c.loop-place.place-index p c.loop-place.left c.requires c.loop-place-test.true at.0 c.loop-place.invariant.left)

pub loop-place-preserved : goal.loop-place-preserved
loop-place-preserved c =
    let places = c.args.places.now in
    let k = c.loop-place.place-index in
    let p = slice_index_or places k no_place in
    let at = c.requires.1 k no_place c.loop-place-test.true in
    let over = left_over places k p c.loop-place.left c.loop-place-test.true refl at.0 c.loop-place.invariant.left in
    record {
      pieces = pieces-next places k _ p c.loop-place.left _ _ c.loop-place-test.true refl at.0 c.loop-place.invariant.left refl c.in_ok-put.ensures c.loop-place.invariant.pieces;
      size = length-set c.loop-place.left p.machine _ ∙ c.loop-place.invariant.size;
      left = left-next places k p c.loop-place.left _ c.loop-place-test.true refl
          (omega (arith, c.loop-place.invariant.size, at.0)) at.0 (omega (arith, over, c.from.ensures)) c.loop-place.invariant.left;
    }
