use Rattle.std.proofs.Common.{◌≡◌, ℕ, ◌+◌, ◌*◌, ◌<◌, ◌≤◌, List, length, All, sym, ap, ◌∙◌, subst, subst₂, arith, sum_by}
use Rattle.std.specs.Prelude.{slice_index}
use Rattle.std.proofs.lemmas.Result.{IfOk-weaker}
use Rattle.msp_weighted.specs.Late.{time_of}
use Rattle.msp_weighted.specs.Steps.{AreFlags}
use Rattle.msp_weighted.specs.Values.{values_of, IsFilled, IsChosen, IsTableOrder}
use Rattle.msp_weighted.proofs.TableOrder.{IsRead, order_count, order_within, some_value, table_order}
use Rattle.msp_weighted.proofs.late_table.late_order.Goals as goal
use Rattle.msp_weighted.proofs.late_table.late_order.Goals.{After-deref-3}

pub table_of-requires-clause-few : goal.table_of-requires-clause-few
table_of-requires-clause-few c = omega (arith, c.requires.few, order_count c.args.inst.now c.in_ok-order.order.items c.in_ok-order.ensures.all, ap length c.deref.ensures.value)

pub table_of-requires-clause-jobs : goal.table_of-requires-clause-jobs
table_of-requires-clause-jobs c = subst (All (λ j. j < length c.args.inst.now.jobs)) (sym c.deref.ensures.value) (order_within c.args.inst.now c.in_ok-order.order.items c.in_ok-order.ensures.all)

pub chosen-requires-clause-few : goal.chosen-requires-clause-few
chosen-requires-clause-few c = omega (arith, c.requires.few, order_count c.args.inst.now c.in_ok-order.order.items c.in_ok-order.ensures.all, ap length c.deref-3.ensures.value)

pub chosen-requires-clause-jobs : goal.chosen-requires-clause-jobs
chosen-requires-clause-jobs c = subst (All (λ j. j < length c.args.inst.now.jobs)) (sym c.deref-3.ensures.value) (order_within c.args.inst.now c.in_ok-order.order.items c.in_ok-order.ensures.all)

pub chosen-requires-clause-flags : goal.chosen-requires-clause-flags
chosen-requires-clause-flags c = subst₂ (λ js fs. AreFlags c.args.inst.now js (c.total_of-total.result + 1) fs)
    (c.deref.ensures.value ∙ sym c.deref-3.ensures.value) (sym c.deref-4.ensures.value) c.in_ok-table.ensures.filled.flagged

pub chosen-requires-clause-room : goal.chosen-requires-clause-room
chosen-requires-clause-room c = subst₂ (λ (js fs : List ℕ). length js * (c.total_of-total.result + 1) ≤ 64 * length fs)
    (c.deref.ensures.value ∙ sym c.deref-3.ensures.value) (sym c.deref-4.ensures.value) c.in_ok-table.ensures.room

pub chosen-requires-clause-inside : goal.chosen-requires-clause-inside
chosen-requires-clause-inside c = omega (arith, c.best_moment-moment.ensures.inside, ap length c.deref-2.ensures.value ∙ c.in_ok-table.ensures.width)

read : (c : After-deref-3) → IsRead c.args.inst.now c.in_ok-order.order.items c.total_of-total.result c.best_moment-moment.result c.in_ok-table.table.values.items c.in_ok-table.table.flags.items
read c =
    let width = c.total_of-total.result + 1 in
    let many : length c.deref-2.result.now ≡ width = ap length c.deref-2.ensures.value ∙ c.in_ok-table.ensures.width in
    record {
      is = c.total_of-total.ensures ∙ ap (sum_by time_of) c.as_slice.ensures;
      filled = subst (λ js. IsFilled c.args.inst.now js width (length js) c.in_ok-table.table.values.items c.in_ok-table.table.flags.items)
          c.deref.ensures.value c.in_ok-table.ensures.filled;
      inside = omega (arith, c.best_moment-moment.ensures.inside, many);
      best = λ t l. subst (λ xs. slice_index xs t ≤ slice_index xs c.best_moment-moment.result) c.deref-2.ensures.value
          (c.best_moment-moment.ensures.best t (omega (arith, l, many)));
    }

pub chosen-requires-clause-some : goal.chosen-requires-clause-some
chosen-requires-clause-some c = subst (λ js. 0 < values_of c.args.inst.now js c.best_moment-moment.result) (sym c.deref-3.ensures.value)
    (some_value c.args.inst.now c.in_ok-order.order.items c.in_ok-order.ensures.all (read (goal.at.chosen-requires-clause-some c).After-deref-3))

pub returns : goal.returns
returns c =
    let i = c.args.inst.now in
    let order = c.in_ok-order.order.items in
    let P : List ℕ → Type 0 = λ js. IsChosen i js (values_of i js c.best_moment-moment.result) c.in_ok-choice.choice.on_time.items c.in_ok-choice.choice.left.items in
    let chosen : P order = subst P c.deref-3.ensures.value c.in_ok-choice.ensures in
    IfOk-weaker c.in_order.result _ (λ o. IsTableOrder i o.items)
    (λ o h. table_order i order c.in_ok-order.ensures.all (read (goal.at.returns c).After-deref-3)
    c.in_ok-choice.choice.on_time.items c.in_ok-choice.choice.left.items h.0 o.items c.in_ok-order.ensures.sorted chosen h.1 h.2 h.3)
    c.in_order.ensures
