-- Columns that are lines of their own.
use Rattle.std.proofs.Common.{◌≡◌, ℕ, ◌+◌, ◌*◌, ◌<◌, ◌≤◌, ℤ, ◌≤ℤ◌, subst, arith}
use Rattle.msp_class.proofs.IntegerRing.{≤ℤ_refl}

pub single-whole : (n : ℕ) → n * 1 ≡ n
single-whole n = omega arith

pub single-rise : (cost : ℕ → ℤ) (lines l j k : ℕ) → l < lines → j ≤ k → k < 1 → cost (l * 1 + j) ≤ℤ cost (l * 1 + k)
single-rise cost lines l j k a b c = subst (λ x. cost (l * 1 + j) ≤ℤ cost x) same (≤ℤ_refl (cost (l * 1 + j)))
  where
    same : l * 1 + j ≡ l * 1 + k
    same = omega arith
