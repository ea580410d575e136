use Rattle.std.proofs.Common.{◌∙◌, refl, arith, slice_index_or}
use Rattle.std.proofs.lemmas.List.{length-set}
use Rattle.msp_total.specs.Places.{no_place}
use Rattle.msp_total.proofs.LaySteps.{times-next, times-small}
use Rattle.msp_total.proofs.lay.times_on.Goals as goal

pub overflow_add-times : goal.overflow_add-times
overflow_add-times c =
    let p = slice_index_or c.args.places.now c.loop-place.place-index no_place in
    let at = c.requires.1 c.loop-place.place-index no_place c.loop-place-test.true in
    omega (arith, c.loop-place.invariant.times p.machine at.0, times-small c.args.places.now c.loop-place.place-index p.machine c.requires, c.from.ensures, at.1)

pub loop-place-preserved : goal.loop-place-preserved
loop-place-preserved c =
    let p = slice_index_or c.args.places.now c.loop-place.place-index no_place in
    let at = c.requires.1 c.loop-place.place-index no_place c.loop-place-test.true in
    record {
      size = length-set c.loop-place.times p.machine _ ∙ c.loop-place.invariant.size;
      times = times-next c.args.places.now c.loop-place.place-index p c.loop-place.times c.from.result c.loop-place-test.true refl
          (omega (arith, c.loop-place.invariant.size, at.0)) at.0 c.from.ensures c.loop-place.invariant.times;
    }
