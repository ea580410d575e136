use Rattle.std.proofs.Common.{length, ap, ap₂, ◌∙◌, arith}
use Rattle.std.proofs.lemmas.Result.{IfOk-weaker}
use Rattle.msp_cut_sums.specs.Pieces.{squared}
use Rattle.msp_cut_sums.proofs.Falling.{order_many}
use Rattle.msp_cut_sums.proofs.Instances.{IsEvenShop-from}
use Rattle.msp_cut_sums.proofs.squares.pieces_by_weight.Goals as goal

pub squared_pieces-requires-clause-few : goal.squared_pieces-requires-clause-few
squared_pieces-requires-clause-few c =
    let h = IsEvenShop-from c.args.inst.now c.requires.class c.requires.inner in
    omega (arith, ap length c.as_slice.ensures.value, order_many _ _ _ c.in_ok-order.ensures, h.of.few)

pub squared_pieces-requires-clause-short : goal.squared_pieces-requires-clause-short
squared_pieces-requires-clause-short c = omega (arith, c.shared_time.ensures, (IsEvenShop-from c.args.inst.now c.requires.class c.requires.inner).span.1)

pub returns : goal.returns
returns c = IfOk-weaker c.squared_pieces.result
    _ _ (λ pieces e. (c.in_ok-order.order.items, c.in_ok-order.ensures, e ∙ ap₂ (λ t o. squared c.args.inst.now.machines t o) c.shared_time.ensures c.as_slice.ensures.value)) c.squared_pieces.ensures
