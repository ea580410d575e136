use Rattle.std.proofs.Common.{List, ℕ, length, AllPairs, IsPermutation, sym, ap, subst, ◌∙◌}
use Rattle.std.specs.List.{range_with_len}
use Rattle.std.proofs.lemmas.Result.{IfOk-weaker}
use Rattle.msp_route.specs.Heads.{AreHeads}
use Rattle.msp_srpt.specs.EqualHeads.{HeadsBefore, RunInOrder}
use Rattle.msp_srpt.proofs.equal_heads.pieces_by_head.Goals as goal

pub pieces_in_order-requires-clause-heads : goal.pieces_in_order-requires-clause-heads
pieces_in_order-requires-clause-heads c = subst (AreHeads c.args.inst.now) (sym c.as_slice-2.ensures.value) c.in_ok-heads.ensures

pub pieces_in_order-requires-clause-all : goal.pieces_in_order-requires-clause-all
pieces_in_order-requires-clause-all c =
    let each = ap (λ (l : List ℕ). length l) c.as_slice.ensures.value ∙ c.in_ok-heads.ensures.each in
    let all = subst (λ m. IsPermutation (range_with_len 0 m) c.in_ok-order.order.items) each c.in_ok-order.ensures.all in
    subst (IsPermutation (range_with_len 0 (length c.args.inst.now.jobs))) (sym c.as_slice-3.ensures.value) all

pub pieces_in_order-requires-clause-rising : goal.pieces_in_order-requires-clause-rising
pieces_in_order-requires-clause-rising c =
    let rising = subst (λ heads. AllPairs (HeadsBefore heads) c.in_ok-order.order.items) (c.as_slice.ensures.value ∙ sym c.as_slice-2.ensures.value) c.in_ok-order.ensures.rising in
    subst (AllPairs (HeadsBefore c.as_slice-2.result.now)) (sym c.as_slice-3.ensures.value) rising

pub returns : goal.returns
returns c =
    IfOk-weaker c.pieces_in_order.result
    _ _ (λ pieces r. (c.in_ok-heads.heads.items, c.in_ok-heads.ensures, subst (λ heads. RunInOrder c.args.inst.now heads pieces) c.as_slice-2.ensures.value r)) c.pieces_in_order.ensures
