use Rattle.std.proofs.Common.{◌≡◌, ◌∙◌, ap, map}
use Rattle.std.proofs.lemmas.Result.{IfOk-weaker}
use Rattle.msp_single.specs.Smith.{IsSmithOrder}
use Rattle.msp_single.proofs.SmithSorted.{smith_order_is}
use Rattle.msp_single.proofs.smith.smith_order.Goals as goal

pub returns : goal.returns
returns c =
    IfOk-weaker c.numbers_of.result (λ o. o.items ≡ map (λ l. l.job) c.deref.result.now) (λ o. IsSmithOrder c.args.inst.now o.items)
    (λ o e. smith_order_is c.args.inst.now c.in_ok-loads.loads.items c.sort.new.loads.items o.items c.in_ok-loads.ensures.numbers
    c.in_ok-loads.ensures.each c.sort.ensures.permutation c.sort.ensures.sorted (e ∙ ap (map (λ l. l.job)) c.deref.ensures.value))
    c.numbers_of.ensures
