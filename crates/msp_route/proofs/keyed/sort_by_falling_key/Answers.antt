use Rattle.std.proofs.Common.{rules}
use Rattle.std.proofs.lemmas.List.Sorted.{answers_always}
use Rattle.msp_route.specs.declared.keyed.Keyed.{Keyed}
use Rattle.msp_route.proofs.KeyOrder.{falling_less, falling_less-order, falling_sorted}
use Rattle.msp_route.proofs.keyed.sort_by_falling_key.Goals as goal

pub returns-clause-sorted : goal.returns-clause-sorted
returns-clause-sorted c = falling_sorted (λ (k : Keyed). k.key) (λ k. k.job)
    _ (c.sort_unstable_by.ensures.sorted (falling_less (λ k. k.key) (λ k. k.job)) (falling_less-order (λ k. k.key) (λ k. k.job)) (answers_always _ _ _ (λ f a r g h. search rules)))
