-- The sizes of the numbers with which rows compute.
use Rattle.std.specs.Prelude.{ℕ, ◌^◌}

-- The most, in size, of a date with which a row computes: at least twice the greatest number times the greatest multiple of speeds. Its
-- opposite, and its sum with a bound, fit 64 bits.
abbrev pub greatest_row_date : ℕ
greatest_row_date = 2 ^ 62
