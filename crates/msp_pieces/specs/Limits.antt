-- The limits of schedules and of fractions that are compared, by their numbers.
use Rattle.std.specs.Prelude.{◌≡◌, ◌*◌, ◌^◌, pos}
use Rattle.msp_pieces.specs.declared.limits.TheConstants.{GREATEST_CARRIED_UNIT, GREATEST_MOMENT, GREATEST_COMPARED_NUMERATOR, GREATEST_COMPARED_DENOMINATOR}

-- The unit that is carried beyond the limits of texts, moments, and the numbers of fractions that are compared.
abbrev pub AreLimits : Type 0
AreLimits =
    (GREATEST_CARRIED_UNIT ≡ pos 4096)
    × (GREATEST_MOMENT ≡ pos (2 * 10 ^ 26))
    × (GREATEST_COMPARED_NUMERATOR ≡ 2 ^ 80)
    × (GREATEST_COMPARED_DENOMINATOR ≡ 2 ^ 44)
