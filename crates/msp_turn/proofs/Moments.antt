-- Moments, their sums and their differences fit their type.
use Rattle.std.proofs.Common.{◌≡◌, ℕ, ◌*◌, ◌^◌, ◌<◌, ◌≤◌, ℤ, pos, ◌+ℤ◌, ◌-ℤ◌, ◌*ℤ◌, ◌≤ℤ◌, FitsSigned, to_z, of_z, unsigned_abs, sym, ap, ap₂, subst, ◌∙◌, arith}
use Rattle.std.specs.Int.{w128}
use Rattle.std.proofs.lemmas.Int.{ints, to_z-of_z, to_z_pos}
use Rattle.std.proofs.lemmas.Nat.{mul-le}
use Rattle.msp_class.specs.declared.sizes.TheConstants.{GREATEST_UNIT}
use Rattle.msp_class.proofs.IntegerRing.{natural_some}
use Rattle.msp_pieces.specs.Within.{IsMoment, IsUnit}

-- a number as the type reads it
abbrev read : ℤ → ℤ
read x = to_z w128 (of_z w128 x)

small_fits : (x : ℤ) → pos 0 ≤ℤ x → x ≤ℤ pos (10 ^ 33) → FitsSigned w128 x
small_fits x h k = omega (arith, ints)

product_fits : (u : ℤ) (r : ℕ) → IsUnit u → r < 2 ^ 64 → (pos 0 ≤ℤ (u *ℤ pos r)) × ((u *ℤ pos r) ≤ℤ pos (10 ^ 32 * 2))
product_fits u r h k =
    let (n, e) = natural_some u (omega (arith, ints, h.0)) in
    subst (λ z. (pos 0 ≤ℤ (z *ℤ pos r)) × ((z *ℤ pos r) ≤ℤ pos (10 ^ 32 * 2))) (sym e) (within n (omega (arith, ints, e, h.1)))
  where
    within : (n : ℕ) → n ≤ unsigned_abs GREATEST_UNIT → (pos 0 ≤ℤ pos (n * r)) × (pos (n * r) ≤ℤ pos (10 ^ 32 * 2))
    within n l = let p = mul-le n r (unsigned_abs GREATEST_UNIT) (2 ^ 64) l (omega arith) in (omega (arith, ints), omega (arith, ints))

product_is : (u : ℤ) (r : ℕ) → IsUnit u → r < 2 ^ 64 → read (read u *ℤ to_z w128 r) ≡ u *ℤ pos r
product_is u r h k =
    let p = product_fits u r h k in
    ap read (ap₂ ◌*ℤ◌ (to_z-of_z w128 u (small_fits u (omega (arith, ints, h.0)) (omega (arith, ints, h.1)))) (to_z_pos w128 r (omega arith)))
    ∙ to_z-of_z w128 (u *ℤ pos r) (small_fits (u *ℤ pos r) p.0 (omega (arith, ints, p.1)))

moment_is : (x : ℤ) → IsMoment x → read x ≡ x
moment_is x h = to_z-of_z w128 x (small_fits x h.0 (omega (arith, ints, h.1)))

reach_fits : (x p : ℤ) → IsMoment x → (pos 0 ≤ℤ p) × (p ≤ℤ pos (10 ^ 32 * 2)) → FitsSigned w128 (x +ℤ p)
reach_fits x p h k = omega (arith, ints, h.0, h.1, k.0, k.1)

pub sum_fits : (x u : ℤ) (r : ℕ) → IsMoment x → IsUnit u → r < 2 ^ 64 → FitsSigned w128 (read x +ℤ read (read u *ℤ to_z w128 r))
sum_fits x u r m h k = subst (FitsSigned w128) (sym (ap₂ ◌+ℤ◌ (moment_is x m) (product_is u r h k))) (reach_fits x (u *ℤ pos r) m (product_fits u r h k))

pub sum_is : (x u : ℤ) (r : ℕ) → IsMoment x → IsUnit u → r < 2 ^ 64 → read (read x +ℤ read (read u *ℤ to_z w128 r)) ≡ x +ℤ (u *ℤ pos r)
sum_is x u r m h k = to_z-of_z w128 _ (sum_fits x u r m h k) ∙ ap₂ ◌+ℤ◌ (moment_is x m) (product_is u r h k)

-- a natural number that fits, less a moment
pub difference_is : (last x : ℤ) → pos 0 ≤ℤ last → FitsSigned w128 last → IsMoment x → read (read last -ℤ read x) ≡ last -ℤ x
difference_is last x h f m = ap read (ap₂ ◌-ℤ◌ (to_z-of_z w128 last f) (moment_is x m)) ∙ to_z-of_z w128 (last -ℤ x) (fits last x h f m)
  where
    fits : (last x : ℤ) → pos 0 ≤ℤ last → FitsSigned w128 last → IsMoment x → FitsSigned w128 (last -ℤ x)
    fits last x h f m = omega (arith, ints, h, f, m.0, m.1)
