-- What lists of numbers contain, lists of distinct numbers, and lists after a write.
use Rattle.std.proofs.Common.{◌≡◌, ◌≢◌, ℕ, suc, ◌<◌, ◌≤◌, ◌⊎◌, inl, inr, refl, List, [], ◌∷◌, ◌++◌, eqb, length, take, drop, get_or, swap_remove}
use Rattle.std.proofs.Common.{Contains, All, AllPairs, IsPermutation, count_by, cond, sym, subst, ◌∙◌, arith}
use Rattle.std.proofs.Math.Seq.{take-append_seam}
use Rattle.std.proofs.lemmas.List.{get_or_default}
use Rattle.std.proofs.lemmas.List.Elements.{All-from_get_or, Contains-get_or, Contains-append_right}
use Rattle.std.proofs.lemmas.List.Sorted.{Contains-permutation, IsPermutation-sym, IsPermutation-swap_remove}
use Rattle.std.proofs.lemmas.Bool.{cases_lt}
use Rattle.msp_class.proofs.Cases.{same_or_not, less_or_not}
use Rattle.msp_class.proofs.Sums.{Contains-from_count, count-from_contains, Contains-tail, sum_by-IsPermutation, count_by-distinct, distinct_from_counts}
use Rattle.msp_assign.specs.Passing.{at}

-- what a vector holds after its slice was written
pub whole_slice : {X : Type 0} (n k : ℕ) (xs ys : List X) → length xs ≡ n → take n (xs ++ drop k ys) ≡ xs
whole_slice n k xs ys e = subst (λ m. take m (xs ++ drop k ys) ≡ xs) e (take-append_seam xs (drop k ys))

-- without repeats, equal numbers stand at one place
pub same_place : (xs : List ℕ) → AllPairs (λ x y. x ≢ y) xs → (i j : ℕ) → i < length xs → j < length xs → at xs i ≡ at xs j → i ≡ j
same_place xs h i j li lj e = elim (same_or_not i j) [
  | inl s ↦ s
  | inr n ↦ elim (less_or_not i j) [
    | inl l ↦ absurd (h i j 0 l lj e)
    | inr l ↦ absurd (h j i 0 (omega (arith, l, n)) li (sym e))
  ]
]

-- a rearrangement has no repeats either
pub distinct-permutation : (xs ys : List ℕ) → IsPermutation xs ys → AllPairs (λ x y. x ≢ y) xs → AllPairs (λ x y. x ≢ y) ys
distinct-permutation xs ys p h = distinct_from_counts ys (λ i. omega (arith, sum_by-IsPermutation (λ x. cond (eqb x i) 1 0) xs ys p, count_by-distinct xs i h))

pub Contains-at : (xs : List ℕ) (k c : ℕ) → k < length xs → at xs k ≡ c → Contains xs c
Contains-at xs k c l e = subst (Contains xs) e (Contains-get_or xs k 0 l)

pub at-Contains : (xs : List ℕ) (c : ℕ) → Contains xs c → (k : ℕ) × (k < length xs) × (at xs k ≡ c)
at-Contains xs c h = (h.0, h.1, get_or_default xs h.0 0 c h.1 ∙ h.2)

-- numbers are in a list or not
pub contained_or_not : (xs : List ℕ) (c : ℕ) → Contains xs c ⊎ ¬ Contains xs c
contained_or_not xs c = elim (cases_lt 0 (count_by (λ x. eqb x c) xs)) [
  | inl some ↦ inl (Contains-from_count xs c some)
  | inr none ↦ inr (λ m. omega (arith, none, count-from_contains xs c m))
]

-- one of distinct numbers is taken away
pub record IsWithout (xs : List ℕ) (e : ℕ) (ys : List ℕ) : Type 0 where
  pub apart : AllPairs (λ x y. x ≢ y) ys
  pub gone : ¬ Contains ys e
  pub before : (c : ℕ) → Contains ys c → Contains xs c
  pub after : (c : ℕ) → Contains xs c → c ≢ e → Contains ys c

pub IsWithout-swap_remove : (xs ys : List ℕ) (k e : ℕ) → AllPairs (λ x y. x ≢ y) xs → k < length xs → e ≡ at xs k → ys ≡ swap_remove xs k e → IsWithout xs e ys
IsWithout-swap_remove xs ys k e h l is s = record {
  apart = λ i j d a b. all (suc i) (suc j) d (omega arith) (omega arith);
  gone = λ m. let w = at-Contains ys e m in all 0 (suc w.0) 0 (omega arith) (omega (arith, w.1)) (sym w.2);
  before = λ c m. Contains-permutation (e ∷ ys) xs c (IsPermutation-sym xs (e ∷ ys) moved) (Contains-append_right (e ∷ []) ys c m);
  after = λ c m n. Contains-tail e ys c (Contains-permutation xs (e ∷ ys) c moved m) (λ q. n (sym q));
}
  where
    moved : IsPermutation xs (e ∷ ys)
    moved = subst (λ x. IsPermutation xs (e ∷ x)) (sym s) (IsPermutation-swap_remove xs k e l (is ∙ get_or_default xs k 0 e l))

    all : AllPairs (λ x y. x ≢ y) (e ∷ ys)
    all = distinct-permutation xs (e ∷ ys) moved h

-- the same, as the item is read
pub taken_away : (xs ys : List ℕ) (k e : ℕ) → AllPairs (λ x y. x ≢ y) xs → k < length xs → e ≡ get_or xs k e → ys ≡ swap_remove xs k e → (e ≡ at xs k) × IsWithout xs e ys
taken_away xs ys k e h l is s = let same = is ∙ get_or_default xs k e 0 l in (same, IsWithout-swap_remove xs ys k e h l same s)

-- a property of numbers that holds of all that are contained
pub All-from_contained : (P : ℕ → Type 0) (xs : List ℕ) → ((c : ℕ) → Contains xs c → P c) → All P xs
All-from_contained P xs h = All-from_get_or P xs 0 (λ i l. h (at xs i) (Contains-at xs i (at xs i) l refl))
