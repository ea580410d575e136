-- Numbers that are multiplied by a common multiple of the speeds keep the limits of unrelated machines.
use Rattle.std.proofs.Common.{◌≡◌, ℕ, ◌*◌, ◌≤◌, Bool, true, false, get_or, ℤ, pos, ◌-ℤ◌, ◌*ℤ◌, ◌≤ℤ◌, ap, subst, ◌∙◌, arith}
use Rattle.std.proofs.lemmas.Nat.{mul-le}
use Rattle.std.proofs.lemmas.List.{length-map}
use Rattle.std.proofs.lemmas.List.Elements.{All-map}
use Rattle.msp_class.specs.declared.environments.EnvKind.TheVariants.{Uniform, Unrelated}
use Rattle.msp_class.proofs.IntegerRing.{≤ℤ_trans, *ℤ-zero, *ℤ-sub, *ℤ-mono, pos-le}
use Rattle.msp_class.specs.declared.sizes.TheConstants.{GREATEST, GREATEST_MULTIPLE}
use Rattle.msp_instance.specs.declared.Curve.{Curve}
use Rattle.msp_instance.specs.Instance.{no_curve}
use Rattle.msp_instance.specs.Conditions.{LiesWithin, HasRelease, HasDue, HasCurve, inner_limits}
use Rattle.msp_pieces.proofs.costs.Small.{product_within}
use Rattle.msp_machines.specs.Unrelated.{stretched_curve, stretched_step}

-- the factor is that of the limits at most
module _ (n : ℕ) (small : n ≤ GREATEST_MULTIPLE) where
  pub times_within : (x top : ℕ) → x ≤ top → n * x ≤ top * GREATEST_MULTIPLE
  times_within x top h = swapped (n * x) (GREATEST_MULTIPLE * top) (mul-le n x GREATEST_MULTIPLE top small h) (turned GREATEST_MULTIPLE top)
    where
      turned : (a b : ℕ) → a * b ≡ b * a
      turned a b = omega arith

      swapped : (a b : ℕ) → a ≤ b → {c : ℕ} → b ≡ c → a ≤ c
      swapped a b h e = omega arith

  pub LiesWithin-product : (d : ℤ) (top : ℕ) → LiesWithin top d → LiesWithin (top * GREATEST_MULTIPLE) (pos n *ℤ d)
  LiesWithin-product d top h = product_within n d GREATEST_MULTIPLE top (top * GREATEST_MULTIPLE) small h (turned top)
    where
      turned : (top : ℕ) → GREATEST_MULTIPLE * top ≤ top * GREATEST_MULTIPLE
      turned top = omega arith

  pub HasRelease-product : (b : Bool) (r : ℕ) → HasRelease (inner_limits Uniform) b r → HasRelease (inner_limits Unrelated) b (n * r)
  HasRelease-product true r h = times_within r (2 * GREATEST) h
  HasRelease-product false r h = ap (λ x. n * x) h ∙ omega arith

  pub HasDue-product : (b : Bool) (d : ℤ) → HasDue (inner_limits Uniform) b d → HasDue (inner_limits Unrelated) b (pos n *ℤ d)
  HasDue-product true d h = LiesWithin-product d (2 * GREATEST) h
  HasDue-product false d h = ap (λ x. pos n *ℤ x) h ∙ *ℤ-zero (pos n)

  pub HasCurve-product : (b : Bool) (c : Curve) → HasCurve (inner_limits Uniform) b c → HasCurve (inner_limits Unrelated) b (stretched_curve n c)
  HasCurve-product true c h = record {
    slope = h.slope;
    base = LiesWithin-product c.base (2 * GREATEST) h.base;
    few = omega (arith, h.few, length-map c.steps (stretched_step n));
    steps = All-map (λ s. (s.above ≤ GREATEST * GREATEST_MULTIPLE) × (s.add ≤ GREATEST * GREATEST_MULTIPLE)) (stretched_step n)
        c.steps (λ k d l. let t = h.steps k d l in (times_within (get_or c.steps k d).above GREATEST t.0, times_within (get_or c.steps k d).add GREATEST t.1));
  }
  HasCurve-product false c h = ap (stretched_curve n) h ∙ ap (λ z. record no_curve { base = z }) (*ℤ-zero (pos n))

  pub near-product : (x y : ℤ) (top : ℕ) → (x -ℤ y) ≤ℤ pos top → ((pos n *ℤ x) -ℤ (pos n *ℤ y)) ≤ℤ pos (top * GREATEST_MULTIPLE)
  near-product x y top h = subst (λ z. z ≤ℤ pos (top * GREATEST_MULTIPLE)) (*ℤ-sub (pos n) x y) (≤ℤ_trans (*ℤ-mono n h) (pos-le (times_within top top (omega arith))))
