-- Least common multiples.
use Rattle.std.specs.Prelude.{ℕ, ◌≤◌, List, All}
use Rattle.std.specs.Int.{◌∣◌}

-- A least common multiple: a multiple of both numbers that divides every other one.
pub record IsLeastMultiple (a b multiple : ℕ) : Type 0 where
  pub left : a ∣ multiple
  pub right : b ∣ multiple
  pub least : (m : ℕ) → a ∣ m → b ∣ m → multiple ∣ m

-- The least common multiple of some numbers: at least 1, a multiple of each, and it divides every other one.
pub record IsLeastOfAll (xs : List ℕ) (multiple : ℕ) : Type 0 where
  pub some : 1 ≤ multiple
  pub common : All (λ s. s ∣ multiple) xs
  pub least : (m : ℕ) → All (λ s. s ∣ m) xs → multiple ∣ m
