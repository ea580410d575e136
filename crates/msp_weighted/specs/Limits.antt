-- The limit of the table, by its number.
use Rattle.std.specs.Prelude.{◌≡◌, ◌^◌}
use Rattle.msp_weighted.specs.declared.late_table.TheConstants.{GREATEST_TOTAL}

-- How long all jobs may take together.
abbrev pub AreLimits : Type 0
AreLimits = GREATEST_TOTAL ≡ 10 ^ 6
