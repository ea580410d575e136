-- The bytes that texts set apart from words and numbers.
use Rattle.std.specs.Prelude.{ℕ}

-- What ends a line, and what stands between two fields.
abbrev pub line_feed_byte : ℕ
line_feed_byte = 10

abbrev pub space_byte : ℕ
space_byte = 32

-- The sign in front of a number less than 0, and the digit that no longer number begins with.
abbrev pub minus_byte : ℕ
minus_byte = 45

abbrev pub zero_byte : ℕ
zero_byte = 48

-- What stands between a numerator and its denominator, and what stands behind the letter of a key.
abbrev pub slash_byte : ℕ
slash_byte = 47

abbrev pub equals_byte : ℕ
equals_byte = 61
