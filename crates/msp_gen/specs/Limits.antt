-- How many seeds there are, by its number.
use Rattle.std.specs.Prelude.{◌≡◌, ◌^◌}
use Rattle.msp_gen.specs.declared.limits.TheConstants.{SEEDS}

abbrev pub AreLimits : Type 0
AreLimits = SEEDS ≡ 2 ^ 31
