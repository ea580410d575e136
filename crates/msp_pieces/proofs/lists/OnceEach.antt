-- A list in whose numbers each one below n stands once: one element has the number.
use Rattle.std.proofs.Common.{◌≡◌, ℕ, ◌<◌, cond, eqb, List, [], ◌∷◌, length, map, filter, count_by, refl, ◌∙◌, arith}
use Rattle.std.proofs.lemmas.List.Sums.{length-filter, sum_by-cons}
use Rattle.msp_class.proofs.Sums.{OnceBelow}

count-map : {X : Type 0} (f : X → ℕ) (j : ℕ) (xs : List X) → count_by (λ x. eqb (f x) j) xs ≡ count_by (λ n. eqb n j) (map f xs)
count-map f j [] = refl
count-map f j (x ∷ xs) = omega (arith, sum_by-cons (λ x. cond (eqb (f x) j) 1 0) x xs, sum_by-cons (λ n. cond (eqb n j) 1 0) (f x) (map f xs), count-map f j xs)

one_of : {X : Type 0} (xs : List X) → length xs ≡ 1 → (x : X) × (xs ≡ x ∷ [])
one_of [] e = absurd (omega (arith, e))
one_of (x ∷ []) e = (x, refl)
one_of (x ∷ y ∷ xs) e = absurd (omega (arith, e))

pub OnceBelow-one : {X : Type 0} (f : X → ℕ) {n : ℕ} (xs : List X) → OnceBelow n (map f xs) → (j : ℕ) → j < n → (x : X) × (filter (λ x. eqb (f x) j) xs ≡ x ∷ [])
OnceBelow-one f xs h j b = one_of (filter (λ x. eqb (f x) j) xs) (length-filter (λ x. eqb (f x) j) xs ∙ count-map f j xs ∙ h.once j b)
