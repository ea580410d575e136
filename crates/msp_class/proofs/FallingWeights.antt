-- Abel's summation: where the weights fall, smaller prefixes give a smaller sum.
use Rattle.std.proofs.Common.{ℕ, zero, suc, ◌+◌, ◌*◌, ◌-◌, ◌≤◌, ◌<◌, ◌≡◌, ap, arith}
use Rattle.msp_class.specs.Sums.{total_below}

crossed : (u v a b : ℕ) → v ≤ u → b ≤ a → u * b + v * a ≤ u * a + v * b
crossed u v a b h k = by u v a b (u - v) (a - b) (omega arith) (omega arith)
  where
    by : (u v a b d e : ℕ) → u ≡ v + d → a ≡ b + e → u * b + v * a ≤ u * a + v * b
    by u v a b d e p q = omega (arith, ap (λ x. x * b) p, ap (λ x. v * x) q, ap (λ x. x * a) p, ap (λ x. d * x) q)

abel_more : (n : ℕ) (w x y : ℕ → ℕ) → ((a b : ℕ) → a ≤ b → b < n → w b ≤ w a) → ((q : ℕ) → q ≤ n → total_below q y ≤ total_below q x)
    → (v : ℕ) → ((r : ℕ) → r < n → v ≤ w r) → total_below n (λ r. w r * y r) + v * total_below n x ≤ total_below n (λ r. w r * x r) + v * total_below n y
abel_more zero w x y falls less v low = omega arith
abel_more (suc n) w x y falls less v low =
    by (w n) (x n) (y n) (total_below n x) (total_below n y) _ _
    (abel_more n w x y (λ a b l m. falls a b l (omega arith)) (λ q l. less q (omega arith)) (w n) (λ r l. falls r n (omega arith) (omega arith)))
    (crossed (w n) v (total_below n x + x n) (total_below n y + y n) (low n (omega arith)) (less (suc n) (omega arith)))
  where
    by : (w x y xs ys p q : ℕ) → p + w * xs ≤ q + w * ys → w * (ys + y) + v * (xs + x) ≤ w * (xs + x) + v * (ys + y) → p + w * y + v * (xs + x) ≤ q + w * x + v * (ys + y)
    by w x y xs ys p q h k = omega arith

pub abel : (n : ℕ) (w x y : ℕ → ℕ) → ((a b : ℕ) → a ≤ b → b < n → w b ≤ w a) → ((q : ℕ) → q ≤ n → total_below q y ≤ total_below q x) → total_below n (λ r. w r * y r) ≤ total_below n (λ r. w r * x r)
abel n w x y falls less = omega (arith, abel_more n w x y falls less 0 (λ r l. omega arith))
