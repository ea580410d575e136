-- Jobs that are changed one after another where they stand.
use Rattle.std.proofs.Common.{◌≡◌, ℕ, zero, suc, ◌+◌, ◌<◌, List, [], ◌∷◌, ◌++◌, length, get_or, set, map, take, drop, refl, ap, ap₂, ◌∙◌, arith}

module _ {X : Type 0} (f : X → X) where
  -- the list whose items before a place are changed
  abbrev pub so_far : ℕ → List X → List X
  so_far k xs = map f (take k xs) ++ drop k xs

  same_item : (xs : List X) (k : ℕ) (d : X) → k < length xs → get_or (so_far k xs) k d ≡ get_or xs k d
  same_item [] k d h = absurd (omega arith)
  same_item (x ∷ xs) zero d h = refl
  same_item (x ∷ xs) (suc k) d h = same_item xs k d (omega arith)

  next_item : (xs : List X) (k : ℕ) (d : X) → k < length xs → set (so_far k xs) k (f (get_or xs k d)) ≡ so_far (suc k) xs
  next_item [] k d h = absurd (omega arith)
  next_item (x ∷ xs) zero d h = refl
  next_item (x ∷ xs) (suc k) d h = ap (λ l. f x ∷ l) (next_item xs k d (omega arith))

  pub changed_next : (xs ys : List X) (k : ℕ) (d new : X) → k < length xs → ys ≡ so_far k xs → new ≡ f (get_or ys k d) → set ys k new ≡ so_far (k + 1) xs
  changed_next xs ys k d new h e made =
      ap₂ (λ l x. set l k x) e (made ∙ ap f (ap (λ l. get_or l k d) e ∙ same_item xs k d h))
      ∙ next_item xs k d h ∙ ap (λ n. so_far n xs) (let more : suc k ≡ k + 1 = omega arith in more)
