use Rattle.std.proofs.Common.{map, ap, ◌∙◌}
use Rattle.std.proofs.lemmas.Result.{IfOk-weaker}
use Rattle.msp_shops.specs.OpenOrder.{turned, IsLaid, IsOpenPlan, on_first, on_second}
use Rattle.msp_shops.proofs.OpenPlan.{IsReady}
use Rattle.msp_shops.proofs.OpenSteps.{ready, ready_turned, laid_first, laid_second, AreGrouped-from_order}
use Rattle.msp_shops.proofs.open.open_pieces.Goals as goal
use Rattle.msp_shops.proofs.open.open_pieces.Goals.{After-deref, After-deref-3}

-- what is asked of the jobs on the first machine, and on the second
made : (c : After-deref) → IsReady c.args.inst.now on_first on_second c.take_special-special.result c.deref.result.now
made c = ready c.args.inst.now c.requires.class c.requires.inner _ _ _ _ _ c.in_ok-others.ensures c.take_special-special.ensures.all c.in_ok-put_in_order.ensures.permutation c.deref.ensures.value

made_turned : (c : After-deref-3) → IsReady c.args.inst.now on_second on_first c.turn.result c.deref-3.result.now
made_turned c = ready_turned c.args.inst.now c.requires.class c.requires.inner _ _ _ _ _ _ _ c.in_ok-others.ensures c.take_special-special.ensures.all
    (c.in_ok-exchanged.ensures ∙ ap (map turned) c.deref-2.ensures.value) c.in_ok-put_in_order-2.ensures.permutation c.deref-3.ensures.value c.turn.ensures

pub lay-requires-clause-few : goal.lay-requires-clause-few
lay-requires-clause-few c = (made (goal.at.lay-requires-clause-few c).After-deref).few

pub lay-requires-clause-once : goal.lay-requires-clause-once
lay-requires-clause-once c = (made (goal.at.lay-requires-clause-once c).After-deref).once

pub lay-requires-clause-times : goal.lay-requires-clause-times
lay-requires-clause-times c = (made (goal.at.lay-requires-clause-times c).After-deref).short

pub lay-requires-clause-special : goal.lay-requires-clause-special
lay-requires-clause-special c = (made (goal.at.lay-requires-clause-special c).After-deref).short_special

pub returns-then-special : goal.returns-then-special
returns-then-special c =
    IfOk-weaker c.lay.result (IsLaid on_first on_second c.take_special-special.result c.deref.result.now) (IsOpenPlan c.args.inst.now)
    (λ ps laid. laid_first c.args.inst.now _ _ _ _ ps (made (goal.at.returns-then-special c).After-deref) c.if-special.true c.take_special-special.ensures.greatest
    c.in_ok-put_in_order.ensures.permutation (AreGrouped-from_order _ c.in_ok-put_in_order.ensures.sorted) c.deref.ensures.value laid) c.lay.ensures

pub lay-requires-2-clause-few : goal.lay-requires-2-clause-few
lay-requires-2-clause-few c = (made_turned (goal.at.lay-requires-2-clause-few c).After-deref-3).few

pub lay-requires-2-clause-once : goal.lay-requires-2-clause-once
lay-requires-2-clause-once c = (made_turned (goal.at.lay-requires-2-clause-once c).After-deref-3).once

pub lay-requires-2-clause-times : goal.lay-requires-2-clause-times
lay-requires-2-clause-times c = (made_turned (goal.at.lay-requires-2-clause-times c).After-deref-3).short

pub lay-requires-2-clause-special : goal.lay-requires-2-clause-special
lay-requires-2-clause-special c = (made_turned (goal.at.lay-requires-2-clause-special c).After-deref-3).short_special

pub returns : goal.returns
returns c =
    IfOk-weaker c.lay-2.result (IsLaid on_second on_first c.turn.result c.deref-3.result.now) (IsOpenPlan c.args.inst.now)
    (λ ps laid. laid_second c.args.inst.now _ _ _ _ _ _ ps (made_turned (goal.at.returns c).After-deref-3) c.turn.ensures c.if-special.false c.take_special-special.ensures.greatest
    (c.in_ok-exchanged.ensures ∙ ap (map turned) c.deref-2.ensures.value) c.in_ok-put_in_order-2.ensures.permutation
    (AreGrouped-from_order _ c.in_ok-put_in_order-2.ensures.sorted) c.deref-3.ensures.value laid) c.lay-2.ensures
