-- How a count moves. It is a number of 64 bits that stays at its last value once it is there.
use Rattle.std.specs.Prelude.{◌≡◌, ◌⊎◌, ℕ, ◌+◌, ◌-◌, ◌^◌, ◌<◌, min, Option, None, Some, ⊤}
use Rattle.std.proofs.Common.{lit<}
use Rattle.std.proofs.Math.Nat.{min-le_right, lt_of_le_of_lt}

-- a count of faults rose in a call: it is greater after the call than before, or stands at its last value
abbrev pub Rose : ℕ → ℕ → Type 0
Rose before after = (before < after) ⊎ (after ≡ 2 ^ 64 - 1)

-- one more, up to the last value
abbrev pub one_more : ℕ → ℕ
one_more count = min (count + 1) (2 ^ 64 - 1)

-- so many more, up to the last value
abbrev pub so_many_more : ℕ → ℕ → ℕ
so_many_more count n = min (count + n) (2 ^ 64 - 1)

-- a count, where there is one, went up by so many
abbrev pub WentUp : Option ℕ → Option ℕ → ℕ → Type 0
WentUp None after n = ⊤
WentUp (Some before) None n = ⊥
WentUp (Some before) (Some after) n = after ≡ so_many_more before n

-- a count, at its last value where it is greater
abbrev pub in_64_bits : ℕ → ℕ
in_64_bits count = min count (2 ^ 64 - 1)

pub in_64_bits-fits : (count : ℕ) → in_64_bits count < 2 ^ 64
in_64_bits-fits count = lt_of_le_of_lt (min-le_right count (2 ^ 64 - 1)) (lit< tt)
