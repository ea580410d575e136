-- The product fits its type.
use Rattle.std.proofs.Common.{◌*◌, ℤ, pos, ◌*ℤ◌, ap₂, ◌∙◌, arith, of_z, to_z, SFits}
use Rattle.std.specs.Int.{w64}
use Rattle.std.proofs.lemmas.Int.{ints, to_z-of_z, to_z_pos}
use Rattle.msp_class.specs.declared.sizes.TheConstants.{GREATEST, GREATEST_MULTIPLE}
use Rattle.msp_instance.specs.Conditions.{LiesWithin}
use Rattle.msp_machines.specs.laws.StretchedInner.{LiesWithin-product}
use Rattle.msp_machines.proofs.unrelated.signed_product.Goals as goal

small_fits : (z : ℤ) → LiesWithin (2 * GREATEST * GREATEST_MULTIPLE) z → SFits w64 z
small_fits z h = omega (arith, ints, h.0, h.1)

pub returns : goal.returns
returns c =
    ap₂ (λ a b. to_z w64 (of_z w64 (a *ℤ b))) (to_z_pos w64 c.args.factor (omega arith)) (to_z-of_z w64 c.args.x c.ranges.x)
    ∙ to_z-of_z w64 (pos c.args.factor *ℤ c.args.x) (small_fits _ (LiesWithin-product c.args.factor c.requires.factor c.args.x (2 * GREATEST) c.requires.x))
