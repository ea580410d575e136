-- The limits of assignments, by their numbers.
use Rattle.std.specs.Prelude.{◌≡◌, ◌^◌}
use Rattle.msp_assign.specs.declared.assignment.TheConstants.{MOST_ROWS, MOST_COLUMNS}

abbrev pub AreLimits : Type 0
AreLimits = (MOST_ROWS ≡ 400) × (MOST_COLUMNS ≡ 2 ^ 20)
