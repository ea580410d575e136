-- Smith's order of jobs that take time is a strict weak order, so a sort by it puts the greater weight for its time first, and ties by number.
use Rattle.std.proofs.Common.{◌≡◌, ℕ, ◌*◌, ◌<◌, ◌≤◌, Bool, true, false, ◌⊎◌, inl, inr, List, get_or, AllPairs, arith}
use Rattle.std.specs.Cmp.{IsStrictWeakOrder}
use Rattle.std.specs.List.Sorted.{IsSortedBy}
use Rattle.std.proofs.lemmas.List.Sorted.{sorted_far}
use Rattle.msp_route.proofs.Ratios.{strict_left, strict_right, level}
use Rattle.msp_route.proofs.KeyOrder.{less, less-no, less-yes, not_less}

module _ {X : Type 0} (number time weight : X → ℕ) (takes_time : (x : X) → 0 < time x) where
  abbrev pub smith_less : X → X → Bool
  smith_less x y = less (weight y * time x) (weight x * time y) (number x) (number y)

  pub smith_less-order : IsStrictWeakOrder smith_less
  smith_less-order = record { one_way = one_way; chain = chain }
    where
      one_way : (x y : X) → smith_less x y ≡ true → smith_less y x ≡ false
      one_way x y h = not_less (weight x * time y) (weight y * time x) (number y) (number x)
          (less-yes (weight y * time x) (weight x * time y) (number x) (number y) h)

      chain : (x y z : X) → smith_less x y ≡ false → smith_less y z ≡ false → smith_less x z ≡ false
      chain x y z h k = not_less (weight z * time x) (weight x * time z) (number x) (number z) (elim (less-no (weight y * time x) (weight x * time y) (number x) (number y) h) [
        | inl a ↦ elim (less-no (weight z * time y) (weight y * time z) (number y) (number z) k) [
          | inl b ↦ inl (strict_left (weight x) (weight y) (weight z) (time x) (time y) (time z) (takes_time z) a (omega (arith, b)))
          | inr f ↦ inl (strict_left (weight x) (weight y) (weight z) (time x) (time y) (time z) (takes_time z) a (omega (arith, f.0)))
        ]
        | inr e ↦ elim (less-no (weight z * time y) (weight y * time z) (number y) (number z) k) [
          | inl b ↦ inl (strict_right (weight x) (weight y) (weight z) (time x) (time y) (time z) (takes_time x) (omega (arith, e.0)) b)
          | inr f ↦ inr (level (weight x) (weight y) (weight z) (time x) (time y) (time z) (takes_time y) e.0 f.0, omega (arith, e.1, f.1))
        ]
      ])

  -- a first, b later: the first has the greater weight for its time, or as great a one and no greater number
  pub smith_sorted : (xs : List X) → IsSortedBy smith_less xs → AllPairs (λ a b. (weight b * time a < weight a * time b) ⊎ ((weight b * time a ≡ weight a * time b) × (number a ≤ number b))) xs
  smith_sorted xs h i j d l k = less-no (weight (get_or xs i d) * time (get_or xs j d)) (weight (get_or xs j d) * time (get_or xs i d))
      (number (get_or xs j d)) (number (get_or xs i d)) (sorted_far smith_less smith_less-order xs h i j d (omega arith) k)
