-- Whether the unit stays small.
use Rattle.std.proofs.Common.{◌≡◌, ℕ, zero, suc, ◌*◌, ◌-◌, ◌^◌, ◌/◌, ◌<◌, ◌≤◌, ◌↔◌, Bool, true, false, leb, List, get_or, All, IsTrue, sym, ap, subst, ◌∙◌, arith, le_of_eq, le_antisymm}
use Rattle.std.specs.Int.{◌∣◌}
use Rattle.std.proofs.Math.Nat.{le_trans, mul-le-mul_left, mul-le-mul, le-mul_of_pos_right, pow-le-pow_right, pow-suc, le_of_dvd, div-mul_cancel, dvd-mul_left}
use Rattle.std.proofs.lemmas.Bool.{leb-true, le-leb, false≢true}
use Rattle.msp_instance.specs.Multiples.{IsLeastOfAll}
use Rattle.msp_uniform.specs.declared.unit.TheConstants.{GREATEST_PRODUCT}
use Rattle.msp_uniform.specs.Uniform.{gap, sum, HaveSmallUnit}
use Rattle.msp_uniform.proofs.Affordable.{gap_some}

-- the least common multiple is at most the one by which the unit is small
pub multiple_least : (speeds : List ℕ) (multiple : ℕ) → IsLeastOfAll speeds multiple → (n : ℕ) → 1 ≤ n → All (λ s. (times : ℕ) × (n ≡ times * s)) speeds → multiple ≤ n
multiple_least speeds multiple h n some c = le_of_dvd some (h.least n (λ k d l. let w = c k d l in subst (λ x. get_or speeds k d ∣ x) (sym w.1) (dvd-mul_left (get_or speeds k d) w.0)))

-- ---- the answers
module _ (speeds : List ℕ) (m : ℕ) where
  -- some first product is too great
  pub too_great : (k : ℕ) → k ≤ m - 1 → GREATEST_PRODUCT < sum speeds * gap speeds ^ k → IsTrue false ↔ HaveSmallUnit speeds m
  too_great k l great =
      let grown = mul-le-mul_left (sum speeds) (pow-le-pow_right (gap_some speeds) l) in
      (λ e. absurd (false≢true e), λ w. absurd (omega (arith, great, w.3, le-mul_of_pos_right (sum speeds * gap speeds ^ (m - 1)) w.1, grown)))

  pub decided : (product multiple : ℕ) (answer : Bool) → IsLeastOfAll speeds multiple
      → product ≡ sum speeds * gap speeds ^ (m - 1) → answer ≡ leb (product * multiple) GREATEST_PRODUCT → IsTrue answer ↔ HaveSmallUnit speeds m
  decided product multiple answer h e f =
      (λ y. (multiple, h.some, (λ k d l. (multiple / get_or speeds k d, sym (div-mul_cancel (get_or speeds k d) (h.common k d l)))), yes (leb-true _ _ (sym f ∙ y))), λ w. f ∙ no w)
    where
      yes : product * multiple ≤ GREATEST_PRODUCT → sum speeds * gap speeds ^ (m - 1) * multiple ≤ GREATEST_PRODUCT
      yes l = omega (arith, l, ap (λ p. p * multiple) e)

      no : HaveSmallUnit speeds m → leb (product * multiple) GREATEST_PRODUCT ≡ true
      no w = le-leb _ _ (le_trans (mul-le-mul (le_of_eq e) (multiple_least speeds multiple h w.0 w.1 w.2)) w.3)

pub power_more : (s g c : ℕ) → 1 ≤ c → s * g ^ (c - 1) * g ≡ s * g ^ c
power_more s g zero l = absurd (omega (arith, l))
power_more s g (suc c) l =
    let less : c ≡ suc c - 1 = omega arith in subst (λ k. s * g ^ k * g ≡ s * g ^ suc c) less (omega (arith, ap (λ x. s * x) (pow-suc g c)))

pub power_at_end : (s g c m : ℕ) → 1 ≤ c → c ≤ m → m ≤ c → s * g ^ (c - 1) ≡ s * g ^ (m - 1)
power_at_end s g c m some l k = ap (λ x. s * g ^ (x - 1)) (le_antisymm l k)
