use Rattle.std.proofs.lemmas.Result.{IfOk-weaker}
use Rattle.msp_places.proofs.MostSteps.{places_many, places_soon, order_many, placed_by_cost}
use Rattle.msp_places.proofs.most.pieces_by_cost.Goals as goal

pub order_by_cost-requires-clause-unit : goal.order_by_cost-requires-clause-unit
order_by_cost-requires-clause-unit c = (c.requires.unit.some, c.requires.small)

pub order_by_cost-requires-clause-places : goal.order_by_cost-requires-clause-places
order_by_cost-requires-clause-places c = places_many c.args.inst.now c.args.unit _ _ c.in_ok-places.ensures c.as_slice-listed.ensures.value

pub order_by_cost-requires-clause-ends : goal.order_by_cost-requires-clause-ends
order_by_cost-requires-clause-ends c =
    places_soon c.args.inst.now c.requires.class c.requires.inner c.args.unit _ _ c.requires.unit c.requires.small c.in_ok-places.ensures c.as_slice-listed.ensures.value

pub in_turn-requires : goal.in_turn-requires
in_turn-requires c = order_many c.args.inst.now c.args.unit _ _ _ _ c.in_ok-places.ensures c.as_slice-listed.ensures.value c.in_ok-order.ensures c.as_slice.ensures.value

pub returns : goal.returns
returns c = IfOk-weaker c.in_turn.result
    _ _ (λ pieces e. placed_by_cost c.args.inst.now c.args.unit _ _ _ _ pieces c.in_ok-places.ensures c.as_slice-listed.ensures.value c.in_ok-order.ensures c.as_slice.ensures.value e)
    c.in_turn.ensures
