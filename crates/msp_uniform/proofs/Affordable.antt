-- Units and ends stay within the limits, turn after turn.
use Rattle.std.proofs.Common.{◌≡◌, ℕ, suc, ◌*◌, ◌-◌, ◌^◌, ◌≤◌, inl, inr, List, [], ◌∷◌, All, fold, max, min, sym, ap, subst, ◌∙◌, arith}
use Rattle.std.proofs.Math.Nat.{mul-le-mul_left, mul-le-mul_right, le-mul_of_pos_right, one-le-pow, pow-suc, le-max_left, le-max_right, min-le_left, min-le_right, le_trans}
use Rattle.std.proofs.lemmas.List.Elements.{All-nil, All-cons}
use Rattle.msp_uniform.specs.declared.unit.TheConstants.{GREATEST_PRODUCT}
use Rattle.msp_uniform.specs.Uniform.{gap}
use Rattle.msp_uniform.specs.Segments.{IsDifference}
use Rattle.msp_uniform.specs.Plans.{IsAffordable, greatest_work}

-- ---- the gap of the speeds
most : (a : ℕ) (xs : List ℕ) → (a ≤ fold max a xs) × All (λ x. x ≤ fold max a xs) xs
most a [] = (omega arith, All-nil (λ x. x ≤ a))
most a (x ∷ xs) = let h = most (max a x) xs in (le_trans (le-max_left a x) h.0, All-cons (λ y. y ≤ fold max (max a x) xs) x xs (le_trans (le-max_right a x) h.0) h.1)

least : (a : ℕ) (xs : List ℕ) → (fold min a xs ≤ a) × All (λ x. fold min a xs ≤ x) xs
least a [] = (omega arith, All-nil (λ x. a ≤ x))
least a (x ∷ xs) = let h = least (min a x) xs in (le_trans h.0 (min-le_left a x), All-cons (λ y. fold min (min a x) xs ≤ y) x xs (le_trans h.0 (min-le_right a x)) h.1)

pub gap_some : (speeds : List ℕ) → 1 ≤ gap speeds
gap_some speeds = le-max_left 1 _

pub difference_gap : (speeds : List ℕ) (d : ℕ) → IsDifference speeds d → d ≤ gap speeds
difference_gap speeds d (inl e) = subst (λ k. k ≤ gap speeds) (sym e) (gap_some speeds)
difference_gap speeds d (inr (some, a, b, l, k, e)) =
    le_trans (omega (arith, e, (most 0 speeds).1 a 0 l, (least (fold max 0 speeds) speeds).1 b 0 k)) (le-max_right 1 (fold max 0 speeds - fold min (fold max 0 speeds) speeds))

module _ (speeds : List ℕ) (finest unit end : ℕ) where
  pub finest_small : (h : ℕ) → IsAffordable speeds finest unit end h → unit * finest ≤ GREATEST_PRODUCT
  finest_small h a = le_trans (mul-le-mul_right finest (le-mul_of_pos_right unit (one-le-pow (h - 1) (gap speeds) (gap_some speeds)))) a.unit_small

  pub unit_small : (h : ℕ) → IsAffordable speeds finest unit end h → unit ≤ GREATEST_PRODUCT
  unit_small h a = le_trans (le-mul_of_pos_right unit a.some) (finest_small h a)

  pub end_small : (h : ℕ) → IsAffordable speeds finest unit end h → end * finest ≤ unit * finest * greatest_work
  end_small h a = omega (arith, mul-le-mul_right finest a.end_small)

  -- a turn makes the unit finer by a difference of speeds
  module _ (g d : ℕ) (some : 1 ≤ d) (is : IsDifference speeds d) (a : IsAffordable speeds finest unit end (suc (suc g))) where
    power : gap speeds ^ (suc (suc g) - 1) ≡ gap speeds ^ g * gap speeds
    power = let one : suc (suc g) - 1 ≡ suc g = omega arith in ap (λ k. gap speeds ^ k) one ∙ pow-suc (gap speeds) g

    finer : unit * d * gap speeds ^ g * finest ≤ unit * gap speeds ^ (suc (suc g) - 1) * finest
    finer = mul-le-mul_right finest
        (subst (λ k. unit * d * gap speeds ^ g ≤ unit * k) (sym power) (omega (arith, mul-le-mul_right (gap speeds ^ g) (mul-le-mul_left unit (difference_gap speeds d is)))))

    pub IsAffordable-turn : IsAffordable speeds finest (unit * d) (end * d) (suc g)
    IsAffordable-turn = record {
      unit_small = subst (λ k. unit * d * gap speeds ^ k * finest ≤ GREATEST_PRODUCT) (omega arith) (le_trans finer a.unit_small);
      end_small = omega (arith, mul-le-mul_right d a.end_small);
      some = a.some;
    }

    -- what a turn asks for
    pub end_finer : end * d ≤ GREATEST_PRODUCT * greatest_work
    end_finer = omega (arith, IsAffordable-turn.end_small, small)
      where
        small : unit * d ≤ GREATEST_PRODUCT
        small = le_trans (le-mul_of_pos_right (unit * d) a.some)
            (le_trans (mul-le-mul_right finest (le-mul_of_pos_right (unit * d) (one-le-pow g (gap speeds) (gap_some speeds)))) (le_trans finer a.unit_small))
