-- Quotients and rests: a number is as many whole blocks of m as its quotient, and its rest.
use Rattle.std.proofs.Common.{◌≡◌, ℕ, ◌+◌, ◌*◌, ◌/◌, ◌%◌, ◌<◌, ◌≤◌, inl, inr, ap, ◌∙◌, arith}
use Rattle.std.proofs.Math.Nat.{add_comm, mod-add-div', mod-lt, mul-le-mul_right}
use Rattle.std.proofs.lemmas.Bool.{cases_order}

-- a quotient and a rest determine the number, and a number these
pub block_and_rest : (m x : ℕ) → x / m * m + x % m ≡ x
block_and_rest m x = add_comm (x / m * m) (x % m) ∙ mod-add-div' x m

pub rest_small : (m x : ℕ) → 1 ≤ m → x % m < m
rest_small m x some = mod-lt x (omega (arith, some))

-- of two numbers, that in a lesser block is less
pub lesser_block : (m p q r s : ℕ) → r < m → p < q → p * m + r < q * m + s
lesser_block m p q r s l k = omega (arith, l, mul-le-mul_right m (let h : p + 1 ≤ q = omega (arith, k) in h))

pub same_block : (m p q r s : ℕ) → r < m → s < m → p * m + r ≡ q * m + s → (p ≡ q) × (r ≡ s)
same_block m p q r s l k e = elim (cases_order p q) [
  | inl f ↦ (f, omega (arith, e, ap (λ x. x * m) f))
  | inr (inl h) ↦ absurd (omega (arith, e, lesser_block m p q r s l h))
  | inr (inr h) ↦ absurd (omega (arith, e, lesser_block m q p s r k h))
]
