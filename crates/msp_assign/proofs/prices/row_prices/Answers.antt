use Rattle.std.proofs.Common.{◌≡◌, ◌∙◌, pos, get_or, ap, arith}
use Rattle.std.specs.Int.{w128}
use Rattle.std.proofs.lemmas.Int.{to_z_pos}
use Rattle.msp_assign.specs.Search.{sizes, paid}
use Rattle.msp_assign.proofs.Filling.{each_push}
use Rattle.msp_assign.proofs.prices.row_prices.Goals as goal

pub loop-row-preserved : goal.loop-row-preserved
loop-row-preserved g c =
    let n = each_push (λ r x. x ≡ pos (paid (sizes (g.C.Costs.cost c.args.costs.now)) c.args.falls.now r (get_or c.args.column_of.now r 0))) _ _ _ (pos 0)
    _ c.in_ok-push.ensures.items c.loop-row.invariant.size c.loop-row.invariant.each
    (to_z_pos w128 c.payment-price.result (omega (arith, c.payment-price.ensures.bound)) ∙ ap pos c.payment-price.ensures.value) in
    record { size = n.0; each = n.1 }
