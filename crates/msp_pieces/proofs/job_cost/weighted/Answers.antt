use Rattle.std.proofs.Common.{sym, subst, ◌∙◌, arith, rules}
use Rattle.std.specs.Int.{w128}
use Rattle.std.proofs.lemmas.Int.{to_z-of_z}
use Rattle.msp_instance.specs.Conditions.{LiesWithin}
use Rattle.msp_pieces.specs.Within.{greatest_cost}
use Rattle.msp_pieces.proofs.costs.Products.{product_fits, product_is, product_small, weighted_small}
use Rattle.msp_pieces.proofs.job_cost.weighted.Goals as goal

pub product-requires : goal.product-requires
product-requires c =
    product_fits greatest_cost (to_z-of_z w128 c.from.result (search rules) ∙ c.from.ensures) (to_z-of_z w128 c.args.x c.ranges.x)
    (weighted_small _ _ c.requires.weight c.requires.small) (omega arith)

pub returns-clause-value : goal.returns-clause-value
returns-clause-value c =
    to_z-of_z w128 c.product.result (search rules)
    ∙ product_is c.product.ensures (to_z-of_z w128 c.from.result (search rules) ∙ c.from.ensures) (to_z-of_z w128 c.args.x c.ranges.x)

pub returns-clause-size : goal.returns-clause-size
returns-clause-size c =
    subst (LiesWithin greatest_cost) (sym (to_z-of_z w128 c.product.result (search rules)))
    (product_small greatest_cost c.product.ensures (to_z-of_z w128 c.from.result (search rules) ∙ c.from.ensures)
    (to_z-of_z w128 c.args.x c.ranges.x) (weighted_small _ _ c.requires.weight c.requires.small))
