use Rattle.std.proofs.Common.{pos, sym, ap, subst, ◌∙◌, arith, rules}
use Rattle.std.specs.Int.{w64, w128}
use Rattle.std.proofs.lemmas.Int.{ints, to_z-of_z}
use Rattle.std.specs.Prelude.{if◌then◌else◌}
use Rattle.msp_instance.specs.Conditions.{LiesWithin}
use Rattle.msp_pieces.specs.Within.{greatest_scaled, greatest_lateness}
use Rattle.msp_pieces.proofs.costs.Products.{product_fits, product_is, less_same}
use Rattle.msp_pieces.proofs.job_cost.late_at.Goals as goal

pub product-requires : goal.product-requires
product-requires c = product_fits greatest_scaled
    (to_z-of_z w128 c.args.unit c.ranges.unit) (to_z-of_z w128 c.from.result (search rules) ∙ c.from.ensures ∙ to_z-of_z w64 c.args.due c.ranges.due)
    c.requires.small (omega arith)

pub returns-then-product-end-clause-value : goal.returns-then-product-end-clause-value
returns-then-product-end-clause-value c =
    let e = product_is c.product.ensures
    (to_z-of_z w128 c.args.unit c.ranges.unit) (to_z-of_z w128 c.from.result (search rules) ∙ c.from.ensures ∙ to_z-of_z w64 c.args.due c.ranges.due) in
    let test = less_same c.if-product-end.true (to_z-of_z w128 c.product.result (search rules) ∙ e) (to_z-of_z w128 c.args.end c.ranges.end) in
    to_z-of_z w128 c.args.unit c.ranges.unit ∙ ap (λ t. if t then c.args.unit else pos 0) (sym test)

pub returns-else-product-end-clause-value : goal.returns-else-product-end-clause-value
returns-else-product-end-clause-value c =
    let e = product_is c.product.ensures
    (to_z-of_z w128 c.args.unit c.ranges.unit) (to_z-of_z w128 c.from.result (search rules) ∙ c.from.ensures ∙ to_z-of_z w64 c.args.due c.ranges.due) in
    let test = less_same c.if-product-end.false (to_z-of_z w128 c.product.result (search rules) ∙ e) (to_z-of_z w128 c.args.end c.ranges.end) in
    ap (λ t. if t then c.args.unit else pos 0) (sym test)

pub returns-then-product-end-clause-size : goal.returns-then-product-end-clause-size
returns-then-product-end-clause-size c =
    let u = c.requires.unit in
    subst (LiesWithin greatest_lateness) (sym (to_z-of_z w128 c.args.unit c.ranges.unit)) (omega (arith, ints), omega (arith, ints))

pub returns-else-product-end-clause-size : goal.returns-else-product-end-clause-size
returns-else-product-end-clause-size c = (omega (arith, ints), omega (arith, ints))
