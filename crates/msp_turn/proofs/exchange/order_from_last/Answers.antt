-- The order of the ends, reversed.
use Rattle.std.proofs.Common.{reverse, AllPairs, IsPermutation, ◌≤ℤ◌, sym, subst}
use Rattle.std.specs.List.{range_with_len}
use Rattle.std.proofs.lemmas.List.Sorted.{IsPermutation-reverse, IsPermutation-trans}
use Rattle.msp_pieces.specs.Cost.{end_of}
use Rattle.msp_pieces.proofs.changes.Exchange.{AllPairs-reverse}
use Rattle.msp_turn.proofs.exchange.order_from_last.Goals as goal

pub returns-clause-all : goal.returns-clause-all
returns-clause-all c =
    subst (IsPermutation (range_with_len 0 c.args.count)) (sym c.reverse.ensures.items)
    (IsPermutation-trans (range_with_len 0 c.args.count) c.in_ok-order.order.items (reverse c.in_ok-order.order.items) c.in_ok-order.ensures.all (IsPermutation-reverse c.in_ok-order.order.items))

pub returns-clause-sorted : goal.returns-clause-sorted
returns-clause-sorted c =
    subst (AllPairs (λ a b. end_of c.args.schedule.now b ≤ℤ end_of c.args.schedule.now a)) (sym c.reverse.ensures.items)
    (AllPairs-reverse (λ a b. end_of c.args.schedule.now a ≤ℤ end_of c.args.schedule.now b) c.in_ok-order.order.items c.in_ok-order.ensures.sorted)
