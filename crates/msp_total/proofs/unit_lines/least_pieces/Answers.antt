use Rattle.std.proofs.Common.{◌≡◌, ◌<◌, ◌≤◌, length, All, sym, ap₂, subst, subst₂, ◌∙◌, arith}
use Rattle.std.proofs.lemmas.Result.{IfOk-weaker}
use Rattle.msp_class.specs.declared.sizes.TheConstants.{MOST_JOBS}
use Rattle.msp_total.specs.LineSteps.{lined, AreLeastLined, line_class}
use Rattle.msp_total.proofs.LeastSlots.{columns_inside}
use Rattle.msp_total.proofs.LineFacts.{small_dates}
use Rattle.msp_total.proofs.unit_lines.least_pieces.Goals as goal
use Rattle.msp_pieces.proofs.feasible.OfClass.{IsOfClass-from}

pub least_slots-requires-clause-small : goal.least_slots-requires-clause-small
least_slots-requires-clause-small c = small_dates c.args.inst.now c.args.late
    (IsOfClass-from c.args.inst.now (line_class c.args.late) c.requires.class c.requires.inner)

pub least_slots-requires-clause-span : goal.least_slots-requires-clause-span
least_slots-requires-clause-span c = (IsOfClass-from c.args.inst.now (line_class c.args.late) c.requires.class c.requires.inner).machine

pub least_slots-requires-clause-short : goal.least_slots-requires-clause-short
least_slots-requires-clause-short c = (IsOfClass-from c.args.inst.now (line_class c.args.late) c.requires.class c.requires.inner).machines

pub laid_out-requires-clause-inside : goal.laid_out-requires-clause-inside
laid_out-requires-clause-inside c =
    let i = c.args.inst.now in
    let h = IsOfClass-from i (line_class c.args.late) c.requires.class c.requires.inner in
    subst₂ (λ slots column. All (λ k. k < length slots) column) (sym c.as_slice.ensures.value) (sym c.as_slice-2.ensures)
    (columns_inside i c.args.late 1 i.machines (small_dates i c.args.late h) (omega arith) h.machine h.machines _ _ c.in_ok-slots.ensures)

pub laid_out-requires-clause-few : goal.laid_out-requires-clause-few
laid_out-requires-clause-few c =
    let h = IsOfClass-from c.args.inst.now (line_class c.args.late) c.requires.class c.requires.inner in
    subst (λ l. length l ≤ MOST_JOBS) (sym c.as_slice-2.ensures) (omega (arith, c.in_ok-slots.ensures.assigned.all, h.few))

pub laid_out-requires-clause-some : goal.laid_out-requires-clause-some
laid_out-requires-clause-some c = (IsOfClass-from c.args.inst.now (line_class c.args.late) c.requires.class c.requires.inner).machine

pub laid_out-requires-clause-machines : goal.laid_out-requires-clause-machines
laid_out-requires-clause-machines c = (IsOfClass-from c.args.inst.now (line_class c.args.late) c.requires.class c.requires.inner).machines

pub returns : goal.returns
returns c =
    IfOk-weaker c.laid_out.result (λ pieces. pieces ≡ lined c.args.inst.now.machines c.as_slice.result.now c.as_slice-2.result.now) (AreLeastLined c.args.inst.now c.args.late) (λ pieces e. record {
      slots = c.in_ok-slots.field-0.slots.items;
      column = c.in_ok-slots.field-0.column;
      least = c.in_ok-slots.ensures;
      laid = e ∙ ap₂ (lined c.args.inst.now.machines) c.as_slice.ensures.value c.as_slice-2.ensures;
    }) c.laid_out.ensures
