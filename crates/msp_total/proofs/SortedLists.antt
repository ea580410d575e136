-- Each list has a sorted arrangement.
use Rattle.std.proofs.Common.{◌≡◌, ℕ, zero, suc, ◌+◌, ◌<◌, ◌≤◌, Bool, true, false, leb, List, [], ◌∷◌, length, get_or, insert, IsPermutation, refl, arith, ap}
use Rattle.std.specs.List.Sorted.{IsNonDecreasingBy}
use Rattle.std.proofs.lemmas.Bool.{leb-true, leb-false}
use Rattle.std.proofs.lemmas.List.{get_or_default}
use Rattle.std.proofs.lemmas.List.Sorted.{IsNonDecreasingBy-short, IsNonDecreasingBy-insert, IsPermutation-refl, IsPermutation-cons, IsPermutation-trans, IsPermutation-insert}

module _ {X : Type 0} (n : X → ℕ) where
  -- where the item is put in: those before it are no higher, and those behind it no lower
  record IsRoom (x : X) (ys : List X) (i : ℕ) : Type 0 where
    inside : i ≤ length ys
    before : (k : ℕ) (d : X) → k < i → n (get_or ys k d) ≤ n x
    after : (k : ℕ) (d : X) → i ≤ k → k < length ys → n x ≤ n (get_or ys k d)

  room : (x : X) (ys : List X) → IsNonDecreasingBy n ys → (m i : ℕ) → i + m ≡ length ys → ((k : ℕ) (d : X) → k < i → n (get_or ys k d) ≤ n x) → (j : ℕ) × IsRoom x ys j
  room x ys h zero i e before = (i, record { inside = omega (arith, e); before = before; after = λ k d a b. absurd (omega (arith, e, a, b)) })
  room x ys h (suc m) i e before = by (leb (n x) (n (get_or ys i x))) refl (room x ys h m (suc i) (omega (arith, e)))
    where
      l : i < length ys
      l = omega (arith, e)

      last : (k : ℕ) (d : X) → k ≤ i → n (get_or ys i x) ≤ n x → n (get_or ys k d) ≤ n x
      last k d a q = omega (arith, h k i x a l, q, ap n (get_or_default ys k x d (omega (arith, a, l))))

      by : (b : Bool) → leb (n x) (n (get_or ys i x)) ≡ b → (((k : ℕ) (d : X) → k < suc i → n (get_or ys k d) ≤ n x) → (j : ℕ) × IsRoom x ys j) → (j : ℕ) × IsRoom x ys j
      by true q next = (i, record { inside = omega (arith, l); before = before; after = λ k d a b. omega (arith, leb-true (n x) (n (get_or ys i x)) q, h i k x a b, ap n (get_or_default ys k x d b)) })
      by false q next = next (λ k d a. last k d (omega (arith, a)) (omega (arith, leb-false (n x) (n (get_or ys i x)) q)))

  pub sorted : (xs : List X) → (ys : List X) × IsPermutation xs ys × IsNonDecreasingBy n ys
  sorted [] = ([], IsPermutation-refl [], IsNonDecreasingBy-short n [] (omega arith))
  sorted (x ∷ xs) =
      let w = sorted xs in
      let r = room x w.0 w.2 (length w.0) 0 (omega arith) (λ k d a. absurd (omega (arith, a))) in (
        insert w.0 r.0 x,
        IsPermutation-trans (x ∷ xs) (x ∷ w.0) (insert w.0 r.0 x) (IsPermutation-cons x xs w.0 w.1) (IsPermutation-insert w.0 r.0 x),
        IsNonDecreasingBy-insert n w.0 r.0 x w.2 r.1.inside r.1.before r.1.after,
      )
