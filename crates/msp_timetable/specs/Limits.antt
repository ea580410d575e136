-- The limits within which a matrix is split, by their numbers.
use Rattle.std.specs.Prelude.{◌≡◌, ◌^◌}
use Rattle.msp_timetable.specs.declared.splitting.TheConstants.{MOST_ROWS, MOST_COLUMNS}
use Rattle.msp_timetable.specs.Split.{greatest_sum}

-- A matrix has at most 32 rows and 400 columns, and each of them adds up to at most 10^25.
abbrev pub AreLimits : Type 0
AreLimits = (MOST_ROWS ≡ 32) × (MOST_COLUMNS ≡ 400) × (greatest_sum ≡ 10 ^ 25)
