-- What the steps of a turn ask for.
use Rattle.std.proofs.Common.{◌≡◌, ℕ, suc, ◌+◌, ◌*◌, ◌-◌, ◌<◌, ◌≤◌, inl, inr, true, false, List, length, All, ap, ◌∙◌, arith, add-one, mul-le-mul, get_or}
use Rattle.std.proofs.Math.Nat.{one-le-mul, mul-le-mul_left}
use Rattle.msp_class.specs.declared.sizes.TheConstants.{GREATEST_SPEED}
use Rattle.msp_uniform.specs.declared.segments.Segment.{Segment}
use Rattle.msp_uniform.specs.Segments.{at, IsSegment, rate_at, gain_at, amount, CanGain, StopsAt, IsDifference, AreScaled, HasPlaces, greatest_length}
use Rattle.msp_uniform.proofs.ScaledFacts.{amount-least, length-short, rates_short, CanGain-scaled, All-scaled, IsSegment-part}
use Rattle.msp_class.proofs.Sums.{sum_by-same, sum_by-add}

amount-add : (f g k : Segment → ℕ) (xs : List Segment) → All (λ x. f x ≡ g x + k x) xs → amount f xs ≡ amount g xs + amount k xs
amount-add f g k xs h = sum_by-same (λ x. x.length * f x) (λ x. x.length * g x + x.length * k x) xs
    (λ q d l. omega (arith, ap (λ v. (get_or xs q d).length * v) (h q d l))) ∙ sum_by-add (λ x. x.length * g x) (λ x. x.length * k x) xs

pub difference_some : (speeds : List ℕ) (d : ℕ) → IsDifference speeds d → 1 ≤ d
difference_some speeds d (inl e) = omega (arith, e)
difference_some speeds d (inr w) = w.0

pub difference_small : (speeds : List ℕ) (b d : ℕ) → 1 ≤ b → All (λ s. s ≤ b) speeds → IsDifference speeds d → d ≤ b
difference_small speeds b d s h (inl e) = omega (arith, e, s)
difference_small speeds b d s h (inr (p, x, y, l, m, e)) = omega (arith, e, h x 0 l)

module _ (speeds : List ℕ) (h n : ℕ) (xs : List Segment) (each : All (IsSegment (length speeds) n (at speeds) h) xs) where
  pub has_places : (r : ℕ) → r < h → All (HasPlaces (length speeds) false r) xs
  has_places r l k d m = let s = each k d m in (omega (arith, s.places, l), s.machines r l)

  has_both : (r : ℕ) → suc r < h → (x : Segment) → IsSegment (length speeds) n (at speeds) h x → HasPlaces (length speeds) true r x
  has_both r l x s = (omega (arith, s.places, l), s.machines r (omega arith), s.machines (suc r) l)

  gain_whole : (r : ℕ) → suc r < h → amount (rate_at (at speeds) r) xs ≡ amount (rate_at (at speeds) (suc r)) xs + amount (gain_at true (at speeds) r) xs
  gain_whole r l = amount-add (rate_at (at speeds) r) (rate_at (at speeds) (suc r)) (gain_at true (at speeds) r) xs
      (λ k d m. omega (arith, (each k d m).falls r (suc r) (omega arith) l))

  pub gain_enough : (r work next : ℕ) → r + 1 < h → work ≤ amount (rate_at (at speeds) r) xs → next ≡ amount (rate_at (at speeds) (r + 1)) xs → work - next ≤ amount (gain_at true (at speeds) r) xs
  gain_enough r work next l m e =
      let next_is = ap (λ k. amount (rate_at (at speeds) k) xs) (add-one r) in omega (arith, m, e, next_is, gain_whole r (omega (arith, l)))

  module _ (d : ℕ) (short : amount (λ _. 1) xs * d ≤ greatest_length) where
    pub lengths_short : All (λ x. x.length * d ≤ greatest_length) xs
    lengths_short k e l = omega (arith, short, mul-le-mul_left d (length-short xs k e l))

    module _ (ys : List Segment) (some : 1 ≤ d) (scaled : AreScaled d xs ys) where
      pub fine_machines : All (λ x. length x.body.value.jobs ≡ length speeds) ys
      fine_machines = All-scaled (IsSegment (length speeds) n (at speeds) h) (λ x. length x.body.value.jobs ≡ length speeds) d xs ys (λ x y s p. ap length p.jobs ∙ s.all) scaled each

      pub fine_places : (r : ℕ) → r + 1 < h → All (HasPlaces (length speeds) true r) ys
      fine_places r l = All-scaled (IsSegment (length speeds) n (at speeds) h) (HasPlaces (length speeds) true r) d xs ys
          (λ x y s p. has_both r (omega (arith, l)) y (IsSegment-part (length speeds) n (at speeds) h (x.length * d) x y p (one-le-mul s.lasts some) s)) scaled each

      pub fine_short : All (λ x. x.length ≤ greatest_length) ys
      fine_short = All-scaled (λ x. x.length * d ≤ greatest_length) (λ x. x.length ≤ greatest_length) d xs ys (λ x y s p. omega (arith, p.long, s)) scaled lengths_short

      pub fine_gains : (r gain : ℕ) → StopsAt (gain_at true (at speeds) r) gain xs d → CanGain (gain_at true (at speeds) r) (gain * d) ys
      fine_gains r gain s = CanGain-scaled (gain_at true (at speeds) r)
          (λ k x y p. ap (λ l. at speeds (at l r) - at speeds (at l (suc r))) p.free) d gain xs ys some s scaled

pub gain_short : (speeds : List ℕ) (h n : ℕ) (xs : List Segment) (work next d : ℕ) → All (IsSegment (length speeds) n (at speeds) h) xs → 2 ≤ h → All (λ s. s ≤ GREATEST_SPEED) speeds
    → amount (λ _. 1) xs ≤ greatest_length → work ≤ amount (rate_at (at speeds) 0) xs → d ≤ GREATEST_SPEED → (work - next) * d ≤ greatest_length * GREATEST_SPEED * GREATEST_SPEED
gain_short speeds h n xs work next d each some small t l m =
    let most : amount (rate_at (at speeds) 0) xs ≤ amount (λ _. 1) xs * GREATEST_SPEED =
    amount-least (rate_at (at speeds) 0) GREATEST_SPEED xs (rates_short speeds GREATEST_SPEED 0 xs small (has_places speeds h n xs each 0 (omega (arith, some)))) in
    let low : work - next ≤ greatest_length * GREATEST_SPEED = omega (arith, l, most, t) in mul-le-mul low m
