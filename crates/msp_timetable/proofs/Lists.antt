-- Lists of numbers: distinct numbers, rearranged columns, and sums.
use Rattle.std.proofs.Common.{◌≡◌, ◌≢◌, ℕ, ◌+◌, ◌*◌, ◌<◌, ◌≤◌, ◌⊎◌, inl, inr, refl, List, [], ◌∷◌, eqb, length, get_or, All, AllPairs, IsPermutation, one-add}
use Rattle.std.proofs.Common.{count_by, sum_by, min, max, sym, ap, subst, ◌∙◌, arith}
use Rattle.std.proofs.lemmas.List.{get_or_default}
use Rattle.std.proofs.lemmas.List.Sorted.{All-permutation, length_permutation}
use Rattle.msp_class.specs.Sums.{total_below}
use Rattle.msp_class.proofs.Sums.{OnceBelow, OnceBelow-from_distinct, total_below-mono, total_below-constant, total_below-split, total_below-same, sum_by_counts, sum_by-constant}
use Rattle.msp_class.proofs.Sums.{sum_by-cons, count_by-distinct}
use Rattle.msp_assign.specs.Passing.{at}
use Rattle.msp_assign.proofs.Lists.{same_place, distinct-permutation}
use Rattle.msp_timetable.specs.Square.{IsPermuted}

-- distinct numbers below n are at most n
pub distinct_short : (n : ℕ) (xs : List ℕ) → All (λ x. x < n) xs → AllPairs (λ x y. x ≢ y) xs → length xs ≤ n
distinct_short n xs h u = omega (
  arith,
  sum_by_counts (λ _. 1) n xs h,
  sum_by-constant 1 xs,
  total_below-mono n
      (λ i. 1 * count_by (λ x. eqb x i) xs) (λ _. 1) (λ i l. omega (arith, count_by-distinct xs i u)),
  total_below-constant n 1,
)

-- a list that is read place by place
pub all_at : (P : ℕ → Type 0) (xs : List ℕ) → ((k : ℕ) → k < length xs → P (at xs k)) → All P xs
all_at P xs h k d l = subst P (get_or_default xs k 0 d l) (h k l)

pub pairs_at : (R : ℕ → ℕ → Type 0) (xs : List ℕ) → ((j k : ℕ) → j < k → k < length xs → R (at xs j) (at xs k)) → AllPairs R xs
pairs_at R xs h j k d a b = subst (λ x. R x (get_or xs k d)) (get_or_default xs j 0 d (omega arith)) (subst (R (at xs j)) (get_or_default xs k 0 d b) (h j k a b))

-- no column stands twice
IsPermuted-apart : (n : ℕ) (xs : List ℕ) → IsPermuted n xs → AllPairs (λ x y. x ≢ y) xs
IsPermuted-apart n xs h = pairs_at (λ x y. x ≢ y) xs (λ j k a b. h.apart j k a (omega (arith, h.size)))

-- one column for each row stays so when columns are exchanged
pub IsPermuted-permutation : (n : ℕ) (xs ys : List ℕ) → IsPermuted n xs → IsPermutation xs ys → IsPermuted n ys
IsPermuted-permutation n xs ys h p = record {
  size = length_permutation xs ys p ∙ h.size;
  inside = λ r l. All-permutation (λ x. x < n) xs ys p (all_at (λ x. x < n) xs (λ k m. h.inside k (omega (arith, h.size)))) r 0 (omega (arith, length_permutation xs ys p, h.size));
  apart = λ q r l m. distinct-permutation xs ys p (IsPermuted-apart n xs h) q r 0 l (omega (arith, length_permutation xs ys p, h.size));
}

pub OnceBelow-permuted : (n : ℕ) (xs : List ℕ) → IsPermuted n xs → OnceBelow n xs
OnceBelow-permuted n xs h = OnceBelow-from_distinct n xs h.size (all_at (λ x. x < n) xs (λ k m. h.inside k (omega (arith, h.size)))) (IsPermuted-apart n xs h)

-- a column has one row
pub same_back_to_back : (n : ℕ) (xs : List ℕ) → IsPermuted n xs → (i j : ℕ) → i < n → j < n → at xs i ≡ at xs j → i ≡ j
same_back_to_back n xs h i j li lj e = same_place xs (IsPermuted-apart n xs h) i j (omega (arith, h.size)) (omega (arith, h.size)) e

pub none_held : {m : ℕ} → (0 < m → ⊥) → m ≡ 0
none_held {m} h = grind arith

pub IsPermuted-size : (m n : ℕ) (xs : List ℕ) → m ≡ n → IsPermuted n xs → IsPermuted m xs
IsPermuted-size m n xs e h = subst (λ k. IsPermuted k xs) (sym e) h

-- the least so far, and one more
pub least-next : (g : ℕ → ℕ) (k least next : ℕ) → next ≤ least → next ≤ g k → (next ≡ least) ⊎ (next ≡ g k) → ((r : ℕ) → r < k → least ≤ g r) → (r : ℕ) → r < k + 1 → next ≤ g r
least-next g k least next a b e h r l = grind (arith, h r)

pub some-next : (g : ℕ → ℕ) (k least next : ℕ) → (next ≡ least) ⊎ (next ≡ g k) → (r : ℕ) × (r < k) × (g r ≡ least) → (r : ℕ) × (r < k + 1) × (g r ≡ next)
some-next g k least next (inl e) w = (w.0, omega (arith, w.1), w.2 ∙ sym e)
some-next g k least next (inr e) w = (k, omega arith, sym e)

pub min-cases : (a b m : ℕ) → m ≡ min a b → (m ≤ a) × (m ≤ b) × ((m ≡ a) ⊎ (m ≡ b))
min-cases a b m e = (omega arith, omega arith, grind arith)

pub same_case : (m a b x : ℕ) → b ≡ x → (m ≡ a) ⊎ (m ≡ b) → (m ≡ a) ⊎ (m ≡ x)
same_case m a b x e (inl q) = inl q
same_case m a b x e (inr q) = inr (q ∙ e)

-- a sum over a list, place by place
pub sum_at : (f : ℕ → ℕ) (xs : List ℕ) (n : ℕ) → length xs ≡ n → sum_by f xs ≡ total_below n (λ r. f (at xs r))
sum_at f [] n e = let z : n ≡ 0 = omega arith in subst (λ m. sum_by f [] ≡ total_below m (λ r. f (at [] r))) (sym z) refl
sum_at f (y ∷ ys) n e =
    let z : n ≡ 1 + length ys = omega arith in
    subst (λ m. sum_by f (y ∷ ys) ≡ total_below m (λ r. f (at (y ∷ ys) r))) (sym z)
    (omega (
      arith,
      sum_by-cons f y ys,
      sum_at f ys (length ys) refl,
      total_below-split 1 (length ys) (λ r. f (at (y ∷ ys) r)),
      total_below-same (length ys) (λ r. f (at (y ∷ ys) (1 + r))) (λ r. f (at ys r)) (λ r l. ap (λ t. f (at (y ∷ ys) t)) (one-add r)),
    ))

pub max-lines : (g b c m x y : ℕ) → b ≡ x → c ≡ y → m ≡ max (max b c) g → (g ≤ m) × (x ≤ m) × (y ≤ m) × ((m ≡ g) ⊎ ((m ≡ x) ⊎ (m ≡ y)))
max-lines g b c m x y e f h = (omega arith, omega arith, omega arith, grind arith)
