-- The most, in size, of a bound on the greatest lateness, by its number.
use Rattle.std.specs.Prelude.{◌≡◌, ◌^◌}
use Rattle.msp_threshold.specs.Squeezed.{greatest_bound}

abbrev pub AreLimits : Type 0
AreLimits = greatest_bound ≡ 10 ^ 10
