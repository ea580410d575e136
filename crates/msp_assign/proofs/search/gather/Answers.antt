use Rattle.std.proofs.Common.{◌<◌, arith, refl, length, ◌≤◌}
use Rattle.std.proofs.lemmas.List.Sorted.{All-permutation, IsPermutation-trans}
use Rattle.msp_assign.proofs.Gathering.{IsGathering-swap, IsNearest-last, some_near}
use Rattle.msp_assign.proofs.search.gather.Goals as goal

pub bounds-distance-column : goal.bounds-distance-column
bounds-distance-column c = All-permutation (λ x. x < length c.args.distance.now)
    _ _ c.loop-k.invariant.same c.requires.inside c.loop-k.k 0 (omega (arith, c.loop-k-test.true, c.loop-k.auto.k-end, c.loop-k.auto.left))

pub bounds-owner-column : goal.bounds-owner-column
bounds-owner-column c = omega (
  arith,
  c.requires.owners,
  All-permutation (λ x. x < length c.args.distance.now)
      _ _ c.loop-k.invariant.same c.requires.inside c.loop-k.k 0 (omega (arith, c.loop-k-test.true, c.loop-k.auto.k-end, c.loop-k.auto.left)),
)

pub returns-then-is_none-clause-same : goal.returns-then-is_none-clause-same
returns-then-is_none-clause-same c = IsPermutation-trans _ _ _ c.loop-k.invariant.same c.swap.ensures.permutation

pub returns-then-is_none-clause-nearest : goal.returns-then-is_none-clause-nearest
returns-then-is_none-clause-nearest c =
    IsNearest-last _ _ _ _ _ (IsGathering-swap _ _ _ _ _ _ c.loop-k.invariant _ _ refl c.if-distance-column.false
    (omega (arith, c.loop-k-test.true, c.loop-k.auto.k-end, c.loop-k.auto.left)) c.swap.ensures.permutation c.swap.ensures.by_index).nearest refl

pub loop-k-preserved : goal.loop-k-preserved
loop-k-preserved c =
    IsGathering-swap _ _ _ _ _ _ c.loop-k.invariant _ _ refl c.if-distance-column.false
    (omega (arith, c.loop-k-test.true, c.loop-k.auto.k-end, c.loop-k.auto.left)) c.swap.ensures.permutation c.swap.ensures.by_index

pub overflow_sub-result : goal.overflow_sub-result
overflow_sub-result c = some_near _ _ _ _ _ _ c.loop-k.invariant (omega (arith, c.loop-k-test.false, c.loop-k.auto.k-end, c.loop-k.auto.left, c.requires.near.inside)) c.requires.reached

pub returns-clause-nearest : goal.returns-clause-nearest
returns-clause-nearest c =
    let some : 1 ≤ c.loop-k.near = some_near _ _ _ _ _ _ c.loop-k.invariant (omega (arith, c.loop-k-test.false, c.loop-k.auto.k-end, c.loop-k.auto.left, c.requires.near.inside)) c.requires.reached in
    IsNearest-last _ _ _ _ _ c.loop-k.invariant.nearest (omega (arith, some))
