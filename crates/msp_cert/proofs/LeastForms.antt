-- Numbers without a common divisor are the least of all forms of their fraction.
use Rattle.std.proofs.Common.{◌≡◌, ℕ, zero, suc, ◌+◌, ◌*◌, ◌%◌, ◌<◌, ◌≤◌, inl, inr, refl, ap, subst, arith}
use Rattle.std.specs.Int.{◌∣◌, IsGcd}
use Rattle.std.proofs.Math.Nat.{dvd-mul_left, dvd-mul_right, mod-lt}
use Rattle.std.proofs.lemmas.Bool.{cases_lt}
use Rattle.std.proofs.lemmas.Nat.Gcd.{IsGcd-from_zero, le_of_dvd, same_from_IsGcd}
use Rattle.msp_instance.proofs.MultipleLemmas.{SharesDivisors, SharesDivisors-start, SharesDivisors-next}

pub some_product : (u r : ℕ) → 1 ≤ u → 1 ≤ r → 1 ≤ u * r
some_product u zero a b = absurd (omega arith)
some_product u (suc r) a b = omega arith

-- what divides multiples of both numbers by one factor divides the factor, where they have no common divisor
module _ (a b d k : ℕ) (g : IsGcd a b 1) (p : d ∣ k * a) (q : d ∣ k * b) where
  divides : (fuel x y : ℕ) → y ≤ fuel → SharesDivisors a b x y → d ∣ k
  divides fuel x zero few s =
      let one : 1 ≡ x = same_from_IsGcd a b 1 x g (s.back x (IsGcd-from_zero x 0 refl)) in
      let same : k * x ≡ k = omega (arith, ap (λ n. k * n) one) in
      subst (λ n. d ∣ n) same (s.on d k p q).0
  divides zero x (suc y) few s = absurd (omega (arith, few))
  divides (suc fuel) x (suc y) few s =
      let less : x % suc y < suc y = mod-lt x (omega arith) in
      divides fuel (suc y) (x % suc y) (omega (arith, few, less)) (SharesDivisors-next a b x (suc y) s)

-- numbers without a common divisor are the least of all forms of their fraction
pub least_form : (fuel a b x u : ℕ) → a + b ≤ fuel → 1 ≤ b → 1 ≤ u → IsGcd a b 1 → a * u ≡ x * b → (a ≤ x) × (b ≤ u)
least_form fuel a b x u f some unit g e = (elim (cases_lt 0 x) [ inl more ↦ le_of_dvd more left | inr less ↦ none less ], le_of_dvd unit right)
  where
    left : a ∣ x
    left = divides a b a x g (dvd-mul_left a x) (subst (λ n. a ∣ n) e (dvd-mul_right a u)) b a b (omega arith) (SharesDivisors-start a b)

    right : b ∣ u
    right =
        let turned : x * b ≡ u * a = omega (arith, e) in
        divides a b b u g (subst (λ n. b ∣ n) turned (dvd-mul_left b x)) (dvd-mul_left b u) b a b (omega arith) (SharesDivisors-start a b)

    none : x ≤ 0 → a ≤ x
    none less = elim (cases_lt 0 a) [
      | inl more ↦ let zero : x * b ≡ 0 * b = ap (λ n. n * b) (omega arith) in absurd (omega (arith, e, zero, some_product a u more unit))
      | inr is ↦ omega (arith, is)
    ]
