-- Works that fit into places. No public contract cites this file.
use Rattle.std.specs.Prelude.{◌≡◌, ℕ, suc, ◌+◌, ◌<◌, ◌≤◌}
use Rattle.msp_class.specs.Sums.{total_below}

-- The first k works take no more than the first k of h places hold, and all n works together no more than all places.
pub record DoFit (h : ℕ) (holds : ℕ → ℕ) (n : ℕ) (works : ℕ → ℕ) : Type 0 where
  pub firsts : (k : ℕ) → k ≤ h → total_below k works ≤ total_below k holds
  pub all : total_below n works ≤ total_below h holds

abbrev pub Falls : (ℕ → ℕ) → ℕ → Type 0
Falls f n = (a b : ℕ) → a ≤ b → b < n → f b ≤ f a

-- The places after a work has taken the place r as far as it could, and the next place for the rest: one place is left of the two.
pub record IsMerged (h r : ℕ) (holds : ℕ → ℕ) (work : ℕ) (holds' : ℕ → ℕ) : Type 0 where
  pub before : (i : ℕ) → i < r → holds' i ≡ holds i
  pub merged : holds' r + work ≡ holds r + holds (suc r)
  pub behind : (i : ℕ) → r < i → suc i < h → holds' i ≡ holds (suc i)
