-- The spelling of numbers: `0`, or a digit from 1 to 9 and further digits, with one `-` in front where the number is negative.
use Rattle.std.specs.Prelude.{ℕ, ◌+◌, ◌-◌, ◌^◌, min, negsuc, Bool, true, false, ◌&&◌, not, ◌==◌, if◌then◌else◌, List, [], ◌∷◌, Option, Some, None, ℤ, pos, neg_ℤ}
use Rattle.std.specs.Char.{is_ascii_digit}
use Rattle.std.specs.List.{list_all}
use Rattle.std.specs.Str.Parse.{digits_value}
use Rattle.msp_text.specs.Bytes.{minus_byte, zero_byte}
use Rattle.msp_text.specs.declared.number.Spelled.{Spelled}

-- The text is that of a number that is not negative.
abbrev pub is_natural : List ℕ → Bool
is_natural [] = false
is_natural (c ∷ []) = is_ascii_digit c
is_natural (c ∷ d ∷ ds) = not (c == zero_byte) && list_all is_ascii_digit (c ∷ d ∷ ds)

-- The text is that of a number of at least 1.
abbrev pub is_positive : List ℕ → Bool
is_positive [] = false
is_positive (c ∷ ds) = not (c == zero_byte) && list_all is_ascii_digit (c ∷ ds)

-- The number of the digits, if they spell one, and the number less than 0 whose size they spell.
abbrev pub natural_of : List ℕ → Option ℤ
natural_of ds = if is_natural ds then Some (pos (digits_value 10 ds)) else None

abbrev pub negative_of : List ℕ → Option ℤ
negative_of ds = if is_positive ds then Some (neg_ℤ (pos (digits_value 10 ds))) else None

-- The number that the text spells, if it spells one.
unfoldable pub number_of : List ℕ → Option ℤ
number_of [] = None
number_of (c ∷ ds) = if c == minus_byte then negative_of ds else natural_of (c ∷ ds)

-- The number, with a size that ends at the greatest of 128 bits.
abbrev pub capped : ℤ → Spelled
capped (pos n) = record { negative = false; size = min n (2 ^ 128 - 1) }
capped (negsuc n) = record { negative = true; size = min (n + 1) (2 ^ 128 - 1) }
