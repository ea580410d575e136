-- A fraction divided through by the greatest common divisor of its two numbers.
use Rattle.std.proofs.Common.{◌≡◌, ℕ, zero, suc, ◌*◌, ◌/◌, ◌<◌, ◌≤◌, ℤ, pos, negsuc, neg_ℤ, ◌*ℤ◌, ◌≤ℤ◌, ◌<ℤ◌, unsigned_abs, refl, sym, ap, ◌∙◌, subst, arith}
use Prim.Native.Nat.{◌∣◌}
use Rattle.std.proofs.Math.Nat.{div-mul_cancel, dvd_of_mul-dvd-mul_right, mul-dvd-mul_right, one-dvd, pos_of_dvd_of_pos, one-mul, zero-mul}
use Rattle.std.proofs.lemmas.Int.{ints}
use Rattle.std.specs.Int.{IsGcd}

-- what stands in a fraction after it is divided through
pub record IsReduced (n d a b : ℕ) : Type 0 where
  pub cross : n * b ≡ a * d
  pub some : 1 ≤ b
  pub lowest : IsGcd a b 1

dvd_along : (k a b : ℕ) → a ≡ b → k ∣ a → k ∣ b
dvd_along k a b e h = subst (λ x. k ∣ x) e h

cross_of : (n d g a b : ℕ) → a * g ≡ n → b * g ≡ d → n * b ≡ a * d
cross_of n d g a b en ed = rw (← en, ← ed) (omega arith)

some_of : (g b d : ℕ) → b * g ≡ d → 1 ≤ d → 1 ≤ b
some_of g zero d e h = absurd (omega (arith, sym (zero-mul g) ∙ e))
some_of g (suc b) d e h = omega arith

left_over : (g e : ℕ) → 0 < g → (e * g) ∣ g → e ∣ 1
left_over g e h p = dvd_of_mul-dvd-mul_right e h (dvd_along (e * g) g (1 * g) (sym (one-mul g)) p)

pub IsReduced-from_gcd : (n d g a b : ℕ) → IsGcd n d g → 1 ≤ d → a ≡ n / g → b ≡ d / g → IsReduced n d a b
IsReduced-from_gcd n d g a b h one ea eb =
    let g_pos : 0 < g = pos_of_dvd_of_pos h.1 one in
    let en : a * g ≡ n = ap (λ x. x * g) ea ∙ div-mul_cancel _ h.0 in
    let ed : b * g ≡ d = ap (λ x. x * g) eb ∙ div-mul_cancel _ h.1 in
    record {
      cross = cross_of n d g a b en ed;
      some = some_of g b d ed one;
      lowest = (one-dvd a, one-dvd b, λ e p q. left_over g e g_pos (h.2 (e * g) (dvd_along (e * g) _ _ en (mul-dvd-mul_right _ p g)) (dvd_along (e * g) _ _ ed (mul-dvd-mul_right _ q g))));
    }

negated : (a d : ℕ) → neg_ℤ (pos (a * d)) ≡ neg_ℤ (pos a) *ℤ pos d
negated zero d = ap (λ v. neg_ℤ (pos v)) (zero-mul d) ∙ sym (ap pos (zero-mul d))
negated (suc a) d = refl

size_negated : (a : ℕ) → unsigned_abs (neg_ℤ (pos a)) ≡ a
size_negated zero = refl
size_negated (suc a) = refl

-- the same with the sign of the numerator
pub same_with_sign : (x y : ℤ) (a b d : ℕ) → unsigned_abs x * b ≡ a * d → (pos 0 ≤ℤ x → y ≡ pos a) → (x <ℤ pos 0 → y ≡ neg_ℤ (pos a)) → x *ℤ pos b ≡ y *ℤ pos d
same_with_sign (pos n) y a b d e p q = ap pos e ∙ sym (ap (λ v. v *ℤ pos d) (p (omega (arith, ints))))
same_with_sign (negsuc n) y a b d e p q = ap (λ v. neg_ℤ (pos v)) e ∙ negated a d ∙ sym (ap (λ v. v *ℤ pos d) (q (omega (arith, ints))))

pub size_with_sign : (x y : ℤ) (a : ℕ) → (pos 0 ≤ℤ x → y ≡ pos a) → (x <ℤ pos 0 → y ≡ neg_ℤ (pos a)) → unsigned_abs y ≡ a
size_with_sign (pos n) y a p q = ap unsigned_abs (p (omega (arith, ints)))
size_with_sign (negsuc n) y a p q = ap unsigned_abs (q (omega (arith, ints))) ∙ size_negated a

-- the fraction num over den, divided through by g into s over q
pub record Divides (num den s q : ℤ) (g : ℕ) : Type 0 where
  pub common : IsGcd (unsigned_abs num) (unsigned_abs den) g
  pub positive : pos 1 ≤ℤ den
  pub whole : q ≡ pos (unsigned_abs den / g)
  pub above : pos 0 ≤ℤ num → s ≡ pos (unsigned_abs num / g)
  pub below : num <ℤ pos 0 → s ≡ neg_ℤ (pos (unsigned_abs num / g))

reduced_of : (num den s q : ℤ) (g : ℕ) → Divides num den s q g → IsReduced (unsigned_abs num) (unsigned_abs den) (unsigned_abs num / g) (unsigned_abs den / g)
reduced_of num (pos d) s q g h = IsReduced-from_gcd _ _ g _ _ h.common (omega (arith, ints, h.positive)) refl refl
reduced_of num (negsuc d) s q g h = absurd (omega (arith, ints, h.positive))

pub Divides-same : (num den s q : ℤ) (g : ℕ) → Divides num den s q g → num *ℤ q ≡ s *ℤ den
Divides-same num (pos d) s q g h = ap (λ v. num *ℤ v) h.whole ∙ same_with_sign num s _ _ d (reduced_of num (pos d) s q g h).cross h.above h.below
Divides-same num (negsuc d) s q g h = absurd (omega (arith, ints, h.positive))

pub Divides-lowest : (num den s q : ℤ) (g : ℕ) → Divides num den s q g → IsGcd (unsigned_abs s) (unsigned_abs q) 1
Divides-lowest num den s q g h =
    let Q : ℤ → Type 0 = λ v. IsGcd (unsigned_abs num / g) (unsigned_abs v) 1 in
    subst (λ (v : ℕ). IsGcd v (unsigned_abs q) 1) (sym (size_with_sign num s _ h.above h.below)) (subst Q (sym h.whole) (reduced_of num den s q g h).lowest)

pub Divides-positive : (num den s q : ℤ) (g : ℕ) → Divides num den s q g → pos 1 ≤ℤ q
Divides-positive num den s q g h =
    let some = (reduced_of num den s q g h).some in
    let e = h.whole in
    omega (arith, ints)
