-- The limit of the solver, by its number.
use Rattle.std.specs.Prelude.{◌≡◌, ◌^◌}
use Rattle.msp_uniform.specs.declared.unit.TheConstants.{GREATEST_PRODUCT}

-- The sum of the speeds, times gaps, times a common multiple, is at most 10^13.
abbrev pub AreLimits : Type 0
AreLimits = GREATEST_PRODUCT ≡ 10 ^ 13
