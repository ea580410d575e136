use Rattle.std.proofs.Common.{refl, arith}
use Rattle.std.proofs.lemmas.Int.{ints}
use Rattle.msp_cert.proofs.PriceFacts.{prices_are_worth}
use Rattle.msp_cert.proofs.prices.prices_worth.Goals as goal

pub returns-clause-worth : goal.returns-clause-worth
returns-clause-worth c =
    let a = c.sum_of.ensures.size in
    let b = c.sum_of-2.ensures.size in
    prices_are_worth c.args.inst.now c.args.row.now c.args.column.now c.sum_of.result c.sum_of-2.result _ c.whole.result
    (c.if-not-are_prices.ensures.0 refl) c.sum_of.ensures.value c.sum_of-2.ensures.value c.whole.ensures.num (omega (arith, ints)) c.whole.ensures.den
