-- The jobs by falling level, as they are sorted.
use Rattle.std.proofs.Common.{◌≡◌, ℕ, ◌<◌, ◌≤◌, ◌⊎◌, inl, inr, List, AllPairs, IsPermutation, arith}
use Rattle.std.specs.List.{range_with_len}
use Rattle.msp_class.proofs.Sums.{OnceBelow-from_permutation, OnceBelow-distinct}

-- the one stands before the other
abbrev pub Falls : (ℕ → ℕ) → ℕ → ℕ → Type 0
Falls key a b = (key b < key a) ⊎ ((key b ≡ key a) × (a < b))

pub by_number : (n : ℕ) (key : ℕ → ℕ) (jobs : List ℕ) → IsPermutation (range_with_len 0 n) jobs
    → AllPairs (λ a b. (key b < key a) ⊎ ((key b ≡ key a) × (a ≤ b))) jobs → AllPairs (Falls key) jobs
by_number n key jobs all h a b d l k = elim (h a b d l k) [
  | inl x ↦ inl x
  | inr x ↦ inr (x.0, omega (arith, x.1, OnceBelow-distinct (OnceBelow-from_permutation all) a b d l k))
]

-- without the ties
pub no_greater : (key : ℕ → ℕ) (jobs : List ℕ) → AllPairs (Falls key) jobs → AllPairs (λ a b. key b ≤ key a) jobs
no_greater key jobs h a b d l k = elim (h a b d l k) [ inl x ↦ omega (arith, x) | inr x ↦ omega (arith, x.0) ]
