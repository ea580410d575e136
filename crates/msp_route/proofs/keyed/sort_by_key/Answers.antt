use Rattle.std.proofs.Common.{rules}
use Rattle.std.proofs.lemmas.List.Sorted.{answers_always}
use Rattle.msp_route.specs.declared.keyed.Keyed.{Keyed}
use Rattle.msp_route.proofs.KeyOrder.{key_less, key_less-order, key_sorted}
use Rattle.msp_route.proofs.keyed.sort_by_key.Goals as goal

pub returns-clause-sorted : goal.returns-clause-sorted
returns-clause-sorted c = key_sorted (λ (k : Keyed). k.key) (λ k. k.job)
    _ (c.sort_unstable_by.ensures.sorted (key_less (λ k. k.key) (λ k. k.job)) (key_less-order (λ k. k.key) (λ k. k.job)) (answers_always _ _ _ (λ f a r g h. search rules)))
