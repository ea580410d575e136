-- The comparison is a strict weak order.
use Rattle.std.proofs.Common.{rules}
use Rattle.std.proofs.lemmas.List.Sorted.{answers_always}
use Rattle.msp_turn.proofs.EndOrder.{end_less, end_less-order, ends_sorted}
use Rattle.msp_turn.proofs.ends.sort.Goals as goal

pub returns-clause-sorted : goal.returns-clause-sorted
returns-clause-sorted c = ends_sorted _ (c.sort_unstable_by.ensures.sorted end_less end_less-order (answers_always _ _ _ (λ f a r g h. search rules)))
