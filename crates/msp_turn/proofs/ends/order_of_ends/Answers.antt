-- The numbers of the sorted ends.
use Rattle.std.proofs.Common.{◌≡◌, ◌∙◌, ap, map, AllPairs, IsPermutation, ◌≤ℤ◌}
use Rattle.std.specs.List.{range_with_len}
use Rattle.std.proofs.lemmas.Result.{IfOk-weaker}
use Rattle.msp_pieces.specs.Cost.{end_of}
use Rattle.msp_turn.proofs.EndOrder.{ends_over, numbers_are, numbers_rise}
use Rattle.msp_turn.proofs.ends.order_of_ends.Goals as goal

pub returns-clause-all : goal.returns-clause-all
returns-clause-all c =
    IfOk-weaker c.numbers_of.result (λ o. o.items ≡ map (λ e. e.job) c.deref.result.now) (λ o. IsPermutation (range_with_len 0 c.args.count) o.items)
    (λ o e. numbers_are c.args.count c.as_slice.result.now c.in_ok-ends.ends.items c.sort.new.ends.items o.items c.in_ok-ends.ensures c.sort.ensures.permutation
    (e ∙ ap (map (λ e. e.job)) c.deref.ensures.value))
    c.numbers_of.ensures

pub returns-clause-sorted : goal.returns-clause-sorted
returns-clause-sorted c =
    IfOk-weaker c.numbers_of.result (λ o. o.items ≡ map (λ e. e.job) c.deref.result.now) (λ o. AllPairs (λ a b. end_of c.args.schedule.now a ≤ℤ end_of c.args.schedule.now b) o.items)
    (λ o e. numbers_rise c.args.count c.args.schedule.now.pieces c.in_ok-ends.ends.items c.sort.new.ends.items o.items
    (c.in_ok-ends.ensures ∙ ap (ends_over c.args.count) c.as_slice.ensures) c.sort.ensures.permutation c.sort.ensures.sorted (e ∙ ap (map (λ e. e.job)) c.deref.ensures.value))
    c.numbers_of.ensures
