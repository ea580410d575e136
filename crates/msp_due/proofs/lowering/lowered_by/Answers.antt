use Rattle.std.proofs.Common.{◌≡◌, ◌+◌, ◌∙◌, refl, ap, sym, subst, get_or, slice_index, arith}
use Rattle.msp_class.specs.Sums.{total_below}
use Rattle.msp_due.specs.Steps.{IsLowered}
use Rattle.msp_due.proofs.LoweredSlots.{IsLowered-next, total_below-next, sum_small, small_fits}
use Rattle.msp_due.proofs.lowering.lowered_by.Goals as goal

pub overflow_add-after : goal.overflow_add-after
overflow_add-after c =
    small_fits _ (sum_small c.loop-end.end (c.args.jobs + 1) (slice_index c.args.counts.now) c.loop-end.after _ c.loop-end-test.true c.loop-end.invariant.after refl c.requires.small)

pub loop-end-preserved : goal.loop-end-preserved
loop-end-preserved c =
    let counts = slice_index c.args.counts.now in
    let count = ap (λ x. x + counts c.loop-end.end) c.loop-end.invariant.after ∙ sym (total_below-next c.loop-end.end counts) in
    record {
      after = count;
      slot = IsLowered-next c.args.machines (λ x. total_below (x + 1) counts) c.args.due c.loop-end.end c.loop-end.slot
          c.fitted-slot.result _ count c.fitted-slot.ensures.most c.fitted-slot.ensures.fits c.fitted-slot.ensures.greatest c.loop-end.invariant.slot;
    }

pub returns : goal.returns
returns c = subst (λ e. IsLowered e c.args.machines (λ x. total_below (x + 1) (slice_index c.args.counts.now)) c.args.due c.loop-end.slot)
    (omega (arith, c.loop-end-test.false, c.loop-end.auto.end-end)) c.loop-end.invariant.slot
