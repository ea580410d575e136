use Rattle.std.proofs.Common.{◌+◌, refl, ap₂, slice_index_or, arith}
use Rattle.msp_pieces.specs.BackToBack.{time_at}
use Rattle.msp_blocks.proofs.Steps.{IsPartly-start, partly_next, partly_room, partly_end, on_ok_then}
use Rattle.msp_blocks.proofs.filling.fill.Goals as goal

pub loop-place-init : goal.loop-place-init
loop-place-init c = IsPartly-start (λ j. slice_index_or c.args.heads.now j 0) (time_at c.args.inst.now) _ c.args.job c.args.begin c.args.end c.args.others.now c.requires.room

pub loop-place-preserved : goal.loop-place-preserved
loop-place-preserved c =
    partly_next (λ j. slice_index_or c.args.heads.now j 0) (time_at c.args.inst.now)
    c.args.pieces.now c.args.job c.args.begin c.args.end c.args.others.now c.loop-place.place c.loop-place.moment c.loop-place.pieces c.loop-place.invariant
    (slice_index_or c.args.others.now c.loop-place.place 0) _ _ c.loop-place-test.true refl c.in_ok-put_gap.ensures (ap₂ (λ a b. a + b) c.max.ensures c.time_of.ensures.value)

pub overflow_add-moment : goal.overflow_add-moment
overflow_add-moment c =
    omega (
      arith,
      c.max.ensures,
      c.time_of.ensures.value,
      c.ranges.end.fits,
      partly_room (λ j. slice_index_or c.args.heads.now j 0) (time_at c.args.inst.now) c.args.pieces.now c.args.job c.args.begin c.args.end c.args.others.now
          c.loop-place.place c.loop-place.moment c.loop-place.pieces c.loop-place.invariant (slice_index_or c.args.others.now c.loop-place.place 0) c.loop-place-test.true refl,
    )

pub returns : goal.returns
returns c =
    on_ok_then c.put_gap-2.result (partly_end (λ j. slice_index_or c.args.heads.now j 0) (time_at c.args.inst.now) c.args.pieces.now c.args.job c.args.begin c.args.end
    c.args.others.now c.loop-place.place c.loop-place.moment c.loop-place.pieces c.loop-place.invariant c.put_gap-2.new.pieces c.loop-place-test.false) c.put_gap-2.ensures
