use Rattle.std.proofs.Common.{◌≤◌, length, All, sym, subst, ap, arith}
use Rattle.std.proofs.lemmas.Result.{IfOk-weaker}
use Rattle.msp_class.specs.declared.sizes.TheConstants.{GREATEST}
use Rattle.msp_single.specs.declared.moore.Task.{Task}
use Rattle.msp_single.specs.Moore.{IsMooreOrder}
use Rattle.msp_single.proofs.MooreSteps.{Chooses}
use Rattle.msp_single.proofs.MooreOrder.{tasks_count, tasks_short, moore_order_is}
use Rattle.msp_single.proofs.moore.moore_order.Goals as goal

pub choose-requires-clause-few : goal.choose-requires-clause-few
choose-requires-clause-few c = omega (
  arith,
  c.requires.few,
  tasks_count c.args.inst.now c.in_ok-tasks.tasks.items
      c.in_ok-tasks.ensures.numbers c.in_ok-tasks.ensures.each c.sort_by_date.new.tasks.items c.sort_by_date.ensures.permutation,
  ap length c.deref.ensures.value,
)

pub choose-requires-clause-short : goal.choose-requires-clause-short
choose-requires-clause-short c =
    subst (All (λ (t : Task). t.time ≤ GREATEST)) (sym c.deref.ensures.value)
    (tasks_short c.args.inst.now c.in_ok-tasks.tasks.items c.in_ok-tasks.ensures.numbers c.in_ok-tasks.ensures.each c.sort_by_date.new.tasks.items c.sort_by_date.ensures.permutation c.requires.short)

pub returns : goal.returns
returns c =
    let choice : Chooses c.sort_by_date.new.tasks.items c.in_ok-choice.choice.accepted.items c.in_ok-choice.choice.dropped.items =
    subst (λ xs. Chooses xs c.in_ok-choice.choice.accepted.items c.in_ok-choice.choice.dropped.items) c.deref.ensures.value c.in_ok-choice.ensures in
    IfOk-weaker c.in_order.result _ (λ o. IsMooreOrder c.args.inst.now o.items)
    (λ o h. moore_order_is c.args.inst.now c.in_ok-tasks.tasks.items c.in_ok-tasks.ensures.numbers c.in_ok-tasks.ensures.each c.sort_by_date.new.tasks.items c.sort_by_date.ensures.permutation
    c.in_ok-choice.choice.accepted.items c.in_ok-choice.choice.dropped.items h.0 o.items c.sort_by_date.ensures.sorted choice h.1 h.2 h.3)
    c.in_order.ensures
