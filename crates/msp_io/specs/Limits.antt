-- The greatest limit of a whole read, by its number.
use Rattle.std.specs.Prelude.{◌≡◌, ◌-◌, ◌^◌}
use Rattle.msp_io.specs.declared.whole.TheConstants.{GREATEST_LIMIT}

abbrev pub AreLimits : Type 0
AreLimits = GREATEST_LIMIT ≡ 2 ^ 32 - 1
