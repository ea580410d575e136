use Rattle.std.proofs.Common.{◌∙◌, rules, arith}
use Rattle.std.proofs.lemmas.Int.{to_z-of_z}
use Rattle.std.specs.Int.{w128}
use Rattle.msp_tests.proofs.SmallMatrix.{small_matrix}
use Rattle.msp_tests.proofs.solvers.table.Goals as goal

pub returns-clause-matrix : goal.returns-clause-matrix
returns-clause-matrix c =
    small_matrix c.args.a c.args.b c.args.c c.args.d (omega (arith, c.ranges.a.fits)) (omega (arith, c.ranges.b.fits)) (omega (arith, c.ranges.c.fits)) (omega (arith, c.ranges.d.fits))
    _ _ _ _ (to_z-of_z w128 _ (search rules) ∙ c.from.ensures) (to_z-of_z w128 _ (search rules) ∙ c.from-2.ensures)
    (to_z-of_z w128 _ (search rules) ∙ c.from-3.ensures) (to_z-of_z w128 _ (search rules) ∙ c.from-4.ensures)
    _ c.in_ok-cells.ensures
