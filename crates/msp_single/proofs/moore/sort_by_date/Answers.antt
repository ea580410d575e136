use Rattle.std.proofs.Common.{rules}
use Rattle.std.proofs.lemmas.List.Sorted.{answers_always}
use Rattle.msp_single.specs.declared.moore.Task.{Task}
use Rattle.msp_pieces.proofs.lists.DateOrder.{date_less, date_less-order, date_sorted}
use Rattle.msp_single.proofs.moore.sort_by_date.Goals as goal

pub returns-clause-sorted : goal.returns-clause-sorted
returns-clause-sorted c = date_sorted (λ (t : Task). t.due) (λ t. t.job)
    _ (c.sort_unstable_by.ensures.sorted (date_less (λ t. t.due) (λ t. t.job)) (date_less-order (λ t. t.due) (λ t. t.job)) (answers_always _ _ _ (λ f a r g h. search rules)))
