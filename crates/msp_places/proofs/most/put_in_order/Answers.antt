use Rattle.std.proofs.Common.{arith}
use Rattle.std.proofs.lemmas.List.{length-take}
use Rattle.std.proofs.lemmas.List.Sorted.{IsPermutation-trans}
use Rattle.msp_pieces.proofs.lists.InTurn.{take_within}
use Rattle.msp_places.proofs.InTurn.{placed-next}
use Rattle.msp_places.proofs.most.put_in_order.Goals as goal

pub cheapest-place-requires-clause-inside : goal.cheapest-place-requires-clause-inside
cheapest-place-requires-clause-inside c = take_within _ _ c.loop-left.invariant.all c.loop-left.left

pub loop-left-preserved : goal.loop-left-preserved
loop-left-preserved c = record {
  all = IsPermutation-trans _ _ _ c.loop-left.invariant.all c.swap.ensures.permutation;
  inside = omega (arith, c.swap.ensures.len, c.loop-left.invariant.inside);
  room = omega (arith, c.loop-left.invariant.room);
  turns = placed-next c.args.inst.now c.args.unit c.args.places.now c.loop-left.order c.swap.new.self c.loop-left.left c.cheapest-place.result c.loop-left-test.true c.loop-left.invariant.inside
      (omega (arith, c.cheapest-place.ensures.place, length-take c.loop-left.left c.loop-left.order)) c.swap.ensures.after c.cheapest-place.ensures.cheapest c.loop-left.invariant.turns;
}

pub returns : goal.returns
returns c = record { all = c.loop-left.invariant.all; cheapest = λ k l. c.loop-left.invariant.turns k (omega (arith, c.loop-left-test.false)) l }
