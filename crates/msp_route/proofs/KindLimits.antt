-- What holds of the machines of each kind.
use Rattle.std.proofs.Common.{◌≤◌, ◌≤ℤ◌, arith}
use Rattle.std.proofs.lemmas.Int.{ints}
use Rattle.msp_class.specs.declared.environments.EnvKind.{EnvKind}
use Rattle.msp_class.specs.declared.environments.EnvKind.TheVariants.{Identical, Unrelated}
use Rattle.msp_class.specs.declared.sizes.TheConstants.{GREATEST_UNIT}
use Rattle.msp_class.proofs.IntegerRing.{≤ℤ_refl}
use Rattle.msp_instance.specs.Conditions.{inner_factor}
use Rattle.msp_route.specs.Bounds.{greatest_unit}

pub inner_factor-some : (k : EnvKind) → 1 ≤ inner_factor k
inner_factor-some Identical = omega arith
inner_factor-some _ = omega arith

-- no kind has a greater unit than the greatest
pub greatest_unit-most : (k : EnvKind) → greatest_unit k ≤ℤ GREATEST_UNIT
greatest_unit-most Unrelated = omega (arith, ints)
greatest_unit-most _ = ≤ℤ_refl _
