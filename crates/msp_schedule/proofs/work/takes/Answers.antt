use Rattle.std.proofs.Common.{◌∙◌, arith, rules}
use Rattle.std.specs.Int.{w128}
use Rattle.std.proofs.lemmas.Int.{to_z-of_z}
use Rattle.msp_pieces.specs.Within.{greatest_scaled}
use Rattle.msp_pieces.proofs.costs.Products.{product_fits}
use Rattle.msp_schedule.proofs.work.takes.Goals as goal

pub product-requires : goal.product-requires
product-requires c = product_fits greatest_scaled (to_z-of_z w128 c.args.unit c.ranges.unit) (to_z-of_z w128 c.from.result (search rules) ∙ c.from.ensures) c.requires (omega arith)
