use Rattle.std.proofs.Common.{ℕ, pos, rules}
use Rattle.std.proofs.lemmas.List.Sorted.{answers_always}
use Rattle.msp_pieces.proofs.lists.DateOrder.{number_less, number_less-order, number_sorted}
use Rattle.msp_weighted.proofs.late_table.sort_by_number.Goals as goal

pub returns-clause-sorted : goal.returns-clause-sorted
returns-clause-sorted c = number_sorted (λ (t : ℕ). pos t) (λ t. t)
    _ (c.sort_unstable_by.ensures.sorted (number_less (λ (t : ℕ). pos t) (λ t. t)) (number_less-order (λ (t : ℕ). pos t) (λ t. t)) (answers_always _ _ _ (λ f a r g h. search rules)))
