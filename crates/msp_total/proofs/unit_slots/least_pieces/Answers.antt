use Rattle.std.proofs.Common.{◌<◌, length, All, sym, subst, subst₂, arith}
use Rattle.std.proofs.lemmas.Result.{IfOk-weaker}
use Rattle.msp_total.specs.SlotSteps.{AreLaid, AreLeastLaid, slot_class}
use Rattle.msp_total.proofs.LeastSlots.{columns_inside}
use Rattle.msp_total.proofs.SlotBest.{small_dates}
use Rattle.msp_total.proofs.unit_slots.least_pieces.Goals as goal
use Rattle.msp_pieces.proofs.feasible.OfClass.{IsOfClass-from}

pub least_slots-requires-clause-small : goal.least_slots-requires-clause-small
least_slots-requires-clause-small c = small_dates c.args.inst.now c.args.late
    (IsOfClass-from c.args.inst.now (slot_class c.args.late) c.requires.class c.requires.inner)

pub laid_out-requires-clause-inside : goal.laid_out-requires-clause-inside
laid_out-requires-clause-inside c =
    let i = c.args.inst.now in
    let h = IsOfClass-from i (slot_class c.args.late) c.requires.class c.requires.inner in
    subst₂ (λ slots column. All (λ k. k < length slots) column) (sym c.as_slice.ensures.value) (sym c.as_slice-2.ensures)
    (columns_inside i c.args.late i.machines 1 (small_dates i c.args.late h) h.machine (omega arith) (omega arith) _ _ c.in_ok-slots.ensures)

pub returns : goal.returns
returns c =
    let l = c.in_ok-slots.ensures in
    IfOk-weaker c.laid_out.result (AreLaid c.as_slice.result.now c.as_slice-2.result.now (length c.as_slice-2.result.now)) (AreLeastLaid c.args.inst.now c.args.late) (λ pieces laid. record {
      slots = c.in_ok-slots.field-0.slots.items;
      column = c.in_ok-slots.field-0.column;
      least = l;
      laid = subst (λ n. AreLaid c.in_ok-slots.field-0.slots.items c.in_ok-slots.field-0.column n pieces) l.assigned.all
          (subst₂ (λ slots column. AreLaid slots column (length column) pieces) c.as_slice.ensures.value c.as_slice-2.ensures laid);
    }) c.laid_out.ensures
