use Rattle.std.proofs.Common.{◌≡◌, pos, ◌+ℤ◌, to_z, of_z, sym, subst, ◌∙◌, arith, rules}
use Rattle.std.proofs.lemmas.Int.{ints, to_z-of_z}
use Rattle.std.specs.Int.{w128}
use Rattle.msp_instance.specs.Conditions.{LiesWithin}
use Rattle.msp_pieces.specs.Within.{greatest_level}
use Rattle.msp_pieces.proofs.costs.Products.{product_fits, product_is, product_small}
use Rattle.msp_pieces.proofs.job_cost.level_at.Goals as goal

pub product-requires : goal.product-requires
product-requires c =
    let sum : to_z w128 (of_z w128 (to_z w128 (of_z w128 c.from.result) +ℤ to_z w128 c.args.adds)) ≡ c.args.base +ℤ pos c.args.adds = omega (arith, ints) in
    product_fits greatest_level (to_z-of_z w128 c.args.unit c.ranges.unit) sum c.requires.level (omega arith)

pub returns-clause-value : goal.returns-clause-value
returns-clause-value c =
    to_z-of_z w128 c.product.result (search rules)
    ∙ product_is {y = c.args.base +ℤ pos c.args.adds} c.product.ensures (to_z-of_z w128 c.args.unit c.ranges.unit) (omega (arith, ints))

pub returns-clause-size : goal.returns-clause-size
returns-clause-size c =
    subst (LiesWithin greatest_level) (sym (to_z-of_z w128 c.product.result (search rules)))
    (product_small {y = c.args.base +ℤ pos c.args.adds} greatest_level c.product.ensures (to_z-of_z w128 c.args.unit c.ranges.unit) (omega (arith, ints)) c.requires.level)
