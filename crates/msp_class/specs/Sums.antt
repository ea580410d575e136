-- Sums of the values of a function at the numbers below n.
use Rattle.std.specs.Prelude.{ℕ, zero, suc, ◌+◌, ℤ, pos, ◌+ℤ◌}

-- of natural numbers
abbrev pub total_below : ℕ → (ℕ → ℕ) → ℕ
total_below zero f = 0
total_below (suc n) f = total_below n f + f n

-- of integers
abbrev pub int_total_below : ℕ → (ℕ → ℤ) → ℤ
int_total_below zero f = pos 0
int_total_below (suc n) f = int_total_below n f +ℤ f n
