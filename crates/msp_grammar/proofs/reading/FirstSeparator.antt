-- The first separator in bytes that are looked at run by run.
use Rattle.std.proofs.Common.{◌≡◌, ◌≢◌, ℕ, ◌+◌, ◌*◌, ◌<◌, ◌≤◌, suc, Bool, true, false, not, cond, List, [], ◌∷◌, length, map, None, Some, position, option_map, refl, sym, ap, ◌∙◌, arith}
use Rattle.std.specs.List.{position_from, position_or_len}
use Rattle.std.proofs.lemmas.Bool.{lt-ltb, le-ltb}
use Rattle.std.proofs.lemmas.Iterator.Adapters.{position_from-zero}
use Rattle.std.proofs.lemmas.Simd.{leading_from_mask_l, trailing_mask_l}
use lib.Count.{count_trailing_zeros}
use lib.Lanes.{mask_l}

module _ {X : Type 0} (p : X → Bool) where
  shifted : (xs : List X) (n i : ℕ) → position_from p (n + i) xs ≡ option_map (λ k. n + k) (position_from p i xs)
  shifted [] n i = refl
  shifted (x ∷ xs) n i = by (p x) (ap (λ m. position_from p m xs) (omega arith) ∙ shifted xs n (i + 1))
    where
      by : (t : Bool) → position_from p (n + i + 1) xs ≡ option_map (λ k. n + k) (position_from p (i + 1) xs)
          → cond t (Some (n + i)) (position_from p (n + i + 1) xs) ≡ option_map (λ k. n + k) (cond t (Some i) (position_from p (i + 1) xs))
      by true h = refl
      by false h = h

  -- counted from n, a place is n further
  pub position_further : (xs : List X) (n : ℕ) → position_from p n xs ≡ option_map (λ k. n + k) (position p xs)
  position_further xs n = ap (λ i. position_from p i xs) (omega arith) ∙ shifted xs n 0 ∙ ap (option_map (λ k. n + k)) (sym (position_from-zero p xs))

  -- ---- by the mask of the lanes that pass

  within : (xs : List X) → 0 < mask_l (map p xs) → position_or_len p xs < length xs
  within [] some = absurd (omega arith)
  within (x ∷ xs) some = by (p x) some (within xs)
    where
      by : (t : Bool) → 0 < cond t 1 0 + 2 * mask_l (map p xs) → (0 < mask_l (map p xs) → position_or_len p xs < length xs)
          → cond (not t) (1 + position_or_len p xs) 0 < suc (length xs)
      by true h rest = omega arith
      by false h rest = omega (arith, rest (omega arith))

  pub no_lane : (xs : List X) → mask_l (map p xs) ≡ 0 → None ≡ position p xs
  no_lane xs none = rw (leading_from_mask_l p xs none, le-ltb (length xs) (length xs) (omega arith)) refl

  pub first_lane : (xs : List X) → length xs ≤ 64 → mask_l (map p xs) ≢ 0 → Some (count_trailing_zeros 64 (mask_l (map p xs))) ≡ position p xs
  first_lane xs few set =
      let some : 0 < mask_l (map p xs) = omega (arith, set) in
      rw (trailing_mask_l p 64 xs few some, lt-ltb (position_or_len p xs) (length xs) (within xs some)) refl
