use Rattle.std.proofs.Common.{◌≡◌, ◌*◌, ◌^◌, ◌<◌, ◌∙◌, leb, length, ap, arith}
use Rattle.msp_uniform.specs.declared.unit.TheConstants.{GREATEST_PRODUCT}
use Rattle.msp_uniform.specs.Uniform.{gap, sum}
use Rattle.msp_uniform.proofs.UnitFacts.{too_great, decided, power_more, power_at_end}
use Rattle.msp_uniform.proofs.unit.has_small_unit.Goals as goal

pub returns-then-product-gt-GREATEST_PRODUCT : goal.returns-then-product-gt-GREATEST_PRODUCT
returns-then-product-gt-GREATEST_PRODUCT c =
    let gap_is : c.from-gap.result ≡ gap c.args.speeds.now = c.from-gap.ensures ∙ c.gap_of.ensures.value in
    let power = ap (λ p. p * gap c.args.speeds.now) c.loop.invariant.value ∙ power_more (sum c.args.speeds.now) (gap c.args.speeds.now) c.loop.counter c.loop.invariant.some in
    let great : GREATEST_PRODUCT < sum c.args.speeds.now * gap c.args.speeds.now ^ c.loop.counter = omega (arith, power, ap (λ g. c.loop.product * g) gap_is, c.if-product-gt-GREATEST_PRODUCT.true) in
    too_great c.args.speeds.now (length c.args.speeds.now) c.loop.counter (omega (arith, c.loop-test.true)) great

pub loop-preserved : goal.loop-preserved
loop-preserved c =
    let gap_is : c.from-gap.result ≡ gap c.args.speeds.now = c.from-gap.ensures ∙ c.gap_of.ensures.value in
    let power = ap (λ p. p * gap c.args.speeds.now) c.loop.invariant.value ∙ power_more (sum c.args.speeds.now) (gap c.args.speeds.now) c.loop.counter c.loop.invariant.some in
    record {
      value = ap (λ g. c.loop.product * g) gap_is ∙ power ∙ ap (λ k. sum c.args.speeds.now * gap c.args.speeds.now ^ k) (omega arith);
      small = omega (arith, c.if-product-gt-GREATEST_PRODUCT.false);
      some = omega arith;
      inside = omega (arith, c.loop-test.true);
    }

pub returns : goal.returns
returns c =
    let end = power_at_end (sum c.args.speeds.now) (gap c.args.speeds.now) c.loop.counter (length c.args.speeds.now) c.loop.invariant.some c.loop.invariant.inside (omega (arith, c.loop-test.false)) in
    decided c.args.speeds.now (length c.args.speeds.now) c.loop.product c.multiple_of_all.result _ c.multiple_of_all.ensures.least
    (c.loop.invariant.value ∙ end) (ap (λ m. leb (c.loop.product * m) GREATEST_PRODUCT) c.from.ensures)
