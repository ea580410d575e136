use Rattle.std.proofs.Common.{length, ap, ap₂, ◌∙◌, arith}
use Rattle.std.proofs.lemmas.Result.{IfOk-weaker}
use Rattle.msp_pieces.proofs.feasible.OfClass.{IsOfClass-from}
use Rattle.msp_cut_sums.specs.Sums.{cut_weights_class}
use Rattle.msp_cut_sums.specs.Pieces.{blocked}
use Rattle.msp_cut_sums.proofs.Falling.{order_many}
use Rattle.msp_cut_sums.proofs.Instances.{weights_span}
use Rattle.msp_cut_sums.proofs.blocks.pieces_by_weight.Goals as goal

pub blocked_pieces-requires-clause-few : goal.blocked_pieces-requires-clause-few
blocked_pieces-requires-clause-few c =
    let h = IsOfClass-from _ cut_weights_class c.requires.class c.requires.inner in
    omega (arith, ap length c.as_slice.ensures.value, order_many _ _ _ c.in_ok-order.ensures, h.few)

pub blocked_pieces-requires-clause-short : goal.blocked_pieces-requires-clause-short
blocked_pieces-requires-clause-short c = omega (arith, c.shared_time.ensures, (weights_span c.args.inst.now (IsOfClass-from c.args.inst.now cut_weights_class c.requires.class c.requires.inner)).1)

pub returns : goal.returns
returns c = IfOk-weaker c.blocked_pieces.result
    _ _ (λ pieces e. (c.in_ok-order.order.items, c.in_ok-order.ensures, e ∙ ap₂ (λ t o. blocked c.args.inst.now.machines t o) c.shared_time.ensures c.as_slice.ensures.value)) c.blocked_pieces.ensures
