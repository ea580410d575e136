use Rattle.std.proofs.Common.{◌≡◌, ◌-ℤ◌, ap, ◌∙◌, arith, rules, to_z, of_z}
use Rattle.std.specs.Int.{w64, w128}
use Rattle.std.proofs.lemmas.Int.{ints, to_z-of_z}
use Rattle.msp_pieces.specs.Within.{greatest_scaled}
use Rattle.msp_pieces.proofs.costs.Products.{product_fits, product_is, product_small}
use Rattle.msp_pieces.proofs.job_cost.lateness_at.Goals as goal

pub product-requires : goal.product-requires
product-requires c = product_fits greatest_scaled
    (to_z-of_z w128 c.args.unit c.ranges.unit) (to_z-of_z w128 c.from.result (search rules) ∙ c.from.ensures ∙ to_z-of_z w64 c.args.due c.ranges.due)
    c.requires.small (omega arith)

pub overflow_sub-result : goal.overflow_sub-result
overflow_sub-result c =
    let small = product_small greatest_scaled c.product.ensures
    (to_z-of_z w128 c.args.unit c.ranges.unit) (to_z-of_z w128 c.from.result (search rules) ∙ c.from.ensures ∙ to_z-of_z w64 c.args.due c.ranges.due) c.requires.small in
    let m = c.requires.moment in
    omega (arith, ints)

pub returns-clause-value : goal.returns-clause-value
returns-clause-value c =
    let e = product_is c.product.ensures
    (to_z-of_z w128 c.args.unit c.ranges.unit) (to_z-of_z w128 c.from.result (search rules) ∙ c.from.ensures ∙ to_z-of_z w64 c.args.due c.ranges.due) in
    let small = product_small greatest_scaled c.product.ensures
    (to_z-of_z w128 c.args.unit c.ranges.unit) (to_z-of_z w128 c.from.result (search rules) ∙ c.from.ensures ∙ to_z-of_z w64 c.args.due c.ranges.due) c.requires.small in
    let m = c.requires.moment in
    let r : to_z w128 (of_z w128 (to_z w128 (of_z w128 c.args.end) -ℤ to_z w128 (of_z w128 c.product.result))) ≡ c.args.end -ℤ c.product.result = omega (arith, ints) in
    r ∙ ap (λ k. c.args.end -ℤ k) e

pub returns-clause-size : goal.returns-clause-size
returns-clause-size c =
    let small = product_small greatest_scaled c.product.ensures
    (to_z-of_z w128 c.args.unit c.ranges.unit) (to_z-of_z w128 c.from.result (search rules) ∙ c.from.ensures ∙ to_z-of_z w64 c.args.due c.ranges.due) c.requires.small in
    let m = c.requires.moment in
    (omega (arith, ints), omega (arith, ints))
