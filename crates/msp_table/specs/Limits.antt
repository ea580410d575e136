-- How many rows there are, by its number.
use Rattle.std.specs.Prelude.{◌≡◌}
use Rattle.msp_table.specs.declared.row.TheConstants.{ROWS}

-- The table has 54 rows.
abbrev pub AreLimits : Type 0
AreLimits = ROWS ≡ 54
