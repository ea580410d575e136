-- Totals of integers: bounds by those of the terms.
use Rattle.std.proofs.Common.{ℕ, zero, suc, ◌*◌, ◌<◌, inl, inr, ℤ, pos, ◌+ℤ◌, ◌≤ℤ◌, ◌≡◌, subst, arith}
use Rattle.std.proofs.lemmas.Bool.{cases_lt}
use Rattle.std.proofs.lemmas.Int.{ints}
use Rattle.msp_class.specs.Sums.{int_total_below}
use Rattle.msp_class.proofs.IntegerRing.{≤ℤ_refl, zero-le-pos}

-- of terms from 0 on it is at least 0, and at least each of them
pub int_total_below-zero : (n : ℕ) (f : ℕ → ℤ) → ((i : ℕ) → i < n → pos 0 ≤ℤ f i) → pos 0 ≤ℤ int_total_below n f
int_total_below-zero zero f h = ≤ℤ_refl (pos 0)
int_total_below-zero (suc n) f h = omega (arith, ints, int_total_below-zero n f (λ i l. h i (omega (arith, l))), h n (omega arith))

pub int_total_below-term : (n : ℕ) (f : ℕ → ℤ) (i : ℕ) → ((i : ℕ) → i < n → pos 0 ≤ℤ f i) → i < n → f i ≤ℤ int_total_below n f
int_total_below-term zero f i h l = absurd (omega (arith, l))
int_total_below-term (suc n) f i h l = elim (cases_lt i n) [
  | inl less ↦ omega (arith, ints, int_total_below-term n f i (λ k b. h k (omega (arith, b))) less, h n (omega arith))
  | inr more ↦
      let e : n ≡ i = omega (arith, l, more) in
      subst (λ k. f k ≤ℤ (int_total_below n f +ℤ f n)) e (omega (arith, ints, int_total_below-zero n f (λ k b. h k (omega (arith, b)))))
]

-- and of terms up to a bound at most n times the bound
pub int_total_below-bound : (n k : ℕ) (f : ℕ → ℤ) → ((i : ℕ) → i < n → f i ≤ℤ pos k) → int_total_below n f ≤ℤ pos (n * k)
int_total_below-bound zero k f h = zero-le-pos (zero * k)
int_total_below-bound (suc n) k f h = omega (arith, ints, int_total_below-bound n k f (λ i l. h i (omega (arith, l))), h n (omega arith))
