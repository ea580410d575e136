use Rattle.std.proofs.Common.{rules}
use Rattle.std.proofs.lemmas.List.Sorted.{answers_always}
use Rattle.msp_shops.specs.declared.pass.JobTimes.{JobTimes}
use Rattle.msp_shops.proofs.Sorted.{johnson_less, johnson_less-order, johnson_sorted}
use Rattle.msp_shops.proofs.order.put_in_order.Goals as goal

pub returns-clause-sorted : goal.returns-clause-sorted
returns-clause-sorted c =
    johnson_sorted (λ (t : JobTimes). t.first) (λ t. t.second) _
    (c.in_ok-sort_by.ensures.sorted (johnson_less (λ (t : JobTimes). t.first) (λ t. t.second))
    (johnson_less-order (λ (t : JobTimes). t.first) (λ t. t.second)) (answers_always _ _ _ (λ f a r g h. search rules)))

pub returns-clause-stable : goal.returns-clause-stable
returns-clause-stable c =
    c.in_ok-sort_by.ensures.stable (johnson_less (λ (t : JobTimes). t.first) (λ t. t.second))
    (johnson_less-order (λ (t : JobTimes). t.first) (λ t. t.second)) (answers_always _ _ _ (λ f a r g h. search rules))
