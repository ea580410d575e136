use Rattle.std.proofs.Common.{rules}
use Rattle.std.specs.Int.{w128}
use Rattle.std.proofs.lemmas.Int.{to_z-of_z}
use Rattle.msp_pieces.proofs.costs.Products.{compared_fits}
use Rattle.msp_pieces.proofs.fraction.compare.Goals as goal

pub product-requires : goal.product-requires
product-requires c = compared_fits (to_z-of_z w128 c.args.a.num (search rules)) (to_z-of_z w128 c.args.b.den (search rules)) c.requires.a.num c.requires.b.den

pub product-requires-2 : goal.product-requires-2
product-requires-2 c = compared_fits (to_z-of_z w128 c.args.b.num (search rules)) (to_z-of_z w128 c.args.a.den (search rules)) c.requires.b.num c.requires.a.den
