use Rattle.std.proofs.Common.{length, ap, arith}
use Rattle.std.proofs.lemmas.List.FromFn.{length-range_with_len}
use Rattle.msp_places.proofs.most.order_by_cost.Goals as goal

pub put_in_order-requires-clause-places : goal.put_in_order-requires-clause-places
put_in_order-requires-clause-places c = omega (arith, c.requires.places, ap length c.as_mut_slice.ensures.value, ap length c.in_ok-order.ensures, length-range_with_len 0 c.len.result, c.len.ensures)
