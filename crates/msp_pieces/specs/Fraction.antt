-- Fractions by their numerators and denominators.
use Rattle.std.specs.Prelude.{◌≡◌, ◌≤◌, ℤ, ◌*ℤ◌, unsigned_abs}
use Rattle.std.specs.Int.{IsGcd}
use Rattle.msp_pieces.specs.declared.Frac.{Frac}
use Rattle.msp_pieces.specs.declared.limits.TheConstants.{GREATEST_COMPARED_NUMERATOR, GREATEST_COMPARED_DENOMINATOR}

-- The two fractions are the same number.
abbrev pub IsSameFraction : Frac → Frac → Type 0
IsSameFraction f g = (f.num *ℤ g.den) ≡ (g.num *ℤ f.den)

-- The fraction is the number x over the unit.
abbrev pub IsOver : Frac → ℤ → ℤ → Type 0
IsOver f x unit = (f.num *ℤ unit) ≡ (x *ℤ f.den)

-- Numerator and denominator have no common divisor above 1.
abbrev pub IsLowest : Frac → Type 0
IsLowest f = IsGcd (unsigned_abs f.num) (unsigned_abs f.den) 1

-- Numerator and denominator are so small that fractions can be compared.
pub record IsComparable (f : Frac) : Type 0 where
  pub num : unsigned_abs f.num ≤ GREATEST_COMPARED_NUMERATOR
  pub den : unsigned_abs f.den ≤ GREATEST_COMPARED_DENOMINATOR
