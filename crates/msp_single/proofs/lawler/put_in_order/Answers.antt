use Rattle.std.proofs.Common.{take, get_or, subst, arith}
use Rattle.msp_route.specs.LastJob.{EndsAt}
use Rattle.msp_pieces.proofs.lists.InTurn.{length_is, take_within}
use Rattle.msp_single.proofs.Placing.{placed-next}
use Rattle.std.proofs.lemmas.List.{length-take}
use Rattle.std.proofs.lemmas.List.Sorted.{IsPermutation-trans}
use Rattle.msp_single.proofs.lawler.put_in_order.Goals as goal

pub total_time-requires-clause-few : goal.total_time-requires-clause-few
total_time-requires-clause-few c = omega (arith, length-take c.loop-left.left c.loop-left.order, length_is _ _ c.loop-left.invariant.all, c.requires.inner.conditions.few)

pub last_place-place-requires-clause-inside : goal.last_place-place-requires-clause-inside
last_place-place-requires-clause-inside c = take_within _ _ c.loop-left.invariant.all c.loop-left.left

pub loop-left-preserved : goal.loop-left-preserved
loop-left-preserved c = record {
  all = IsPermutation-trans _ _ _ c.loop-left.invariant.all c.swap.ensures.permutation;
  inside = omega (arith, c.swap.ensures.len, c.loop-left.invariant.inside);
  last = placed-next c.args.inst.now c.loop-left.order c.swap.new.self c.loop-left.left c.last_place-place.result c.loop-left-test.true c.loop-left.invariant.inside
      (omega (arith, c.last_place-place.ensures.place, length-take c.loop-left.left c.loop-left.order)) c.swap.ensures.after
      (subst (λ m. EndsAt c.args.inst.now m (take c.loop-left.left c.loop-left.order) (get_or (take c.loop-left.left c.loop-left.order) c.last_place-place.result 0))
      c.total_time.ensures.value c.last_place-place.ensures.last) c.loop-left.invariant.last;
}

pub returns : goal.returns
returns c = record { all = c.loop-left.invariant.all; last = λ k l. c.loop-left.invariant.last k (omega (arith, c.loop-left-test.false)) l }

pub total_time-requires-clause-jobs : goal.total_time-requires-clause-jobs
total_time-requires-clause-jobs c = take_within _ _ c.loop-left.invariant.all c.loop-left.left
