-- Sums over a list whose elements have keys below n, and lists that hold each number below n once; with the sums over lists and the totals below n.
use Rattle.std.proofs.Common.{◌≡◌, ℕ, zero, suc, ◌+◌, ◌*◌, ◌≤◌, ◌<◌, Bool, true, false, cond, eqb, ◌≢◌, List, [], ◌∷◌, ◌++◌, length, get_or, All, AllPairs}
use Rattle.std.proofs.Common.{Contains, filter, sum_by, count_by, IsPermutation, ◌⊎◌, inl, inr, subst₂, arith, refl, sym, ap, subst, ◌∙◌}
use Rattle.std.specs.List.{range_with_len, AllAdjacentBelow}
use Rattle.std.proofs.lemmas.List.Elements.{Contains-get_or}
use Rattle.std.proofs.lemmas.List.Sorted.{All-permutation}
use Rattle.std.proofs.lemmas.List.{get_or_default, take_all}
use Rattle.std.proofs.lemmas.List.Kept.{AllPairs-cons}
use Rattle.msp_class.specs.Sums.{total_below}
use Rattle.std.proofs.lemmas.List.FromFn.{length-range_with_len, get_or-range_with_len}
use Rattle.std.proofs.lemmas.Bool.{eq-eqb, ne_eqb, cases_eq, cases_lt, cases_order}
use native.Mathlib.Nat.{mul-le-mul_left}
pub use Rattle.std.proofs.lemmas.List.Sums.{sum_by-cons, sum_by-append, sum_by_push}
pub use Rattle.std.proofs.lemmas.List.Sorted.{sum_by-IsPermutation}
pub use Rattle.msp_class.proofs.ListSums.{cond-zero, cond-le, cond-scale, cond-count, cond-mono, cond-yes, cond-no, eqb_comm, sum_by-take_more, sum_by-mono, sum_by-same}
pub use Rattle.msp_class.proofs.ListSums.{sum_by-agree, sum_by-add, sum_by-scale, sum_by-scale_right, sum_by-constant, sum_by-none, sum_by-filter, sum_by-contains, sum_by-some}
pub use Rattle.msp_class.proofs.ListSums.{Contains-tail, Contains-filter, Contains-from_filter, sum_by-map}
pub use Rattle.msp_class.proofs.Totals.{total_below-mono, total_below-same, total_below-add, total_below-scale, total_below-scale_right, total_below-constant, total_below-within}
pub use Rattle.msp_class.proofs.Totals.{total_below-none, total_below-bound, total_below-term, total_below-some, total_below-tight, total_below-only, total_below-split, total_below-exchange}
pub use Rattle.msp_class.proofs.Totals.{int_total_below-same, int_total_below-mono, int_total_below-add, int_total_below-scale, int_total_below-pos}
pub use Rattle.msp_class.proofs.Totals.{int_total_below-natural}
use Rattle.std.proofs.lemmas.Bool.Decides.{nat_tests}
use Rattle.std.proofs.Common.{◌-◌, take, add-one}
use Rattle.msp_class.proofs.ListSums.{sum_by-take_more}

pub range_with_len_last : (a n : ℕ) → range_with_len a (suc n) ≡ range_with_len a n ++ (a + n) ∷ []
range_with_len_last a zero = ap (λ k. k ∷ []) (omega arith)
range_with_len_last a (suc n) = ap (λ l. a ∷ l) (range_with_len_last (a + 1) n ∙ ap (λ k. range_with_len (a + 1) n ++ k ∷ []) (omega arith))

-- the total is the sum over the list of the numbers below n
pub total_below-range_from : (a n : ℕ) (f : ℕ → ℕ) → sum_by f (range_with_len a n) ≡ total_below n (λ i. f (a + i))
total_below-range_from a zero f = refl
total_below-range_from a (suc n) f = ap (sum_by f) (range_with_len_last a n) ∙ sum_by-append f (range_with_len a n) ((a + n) ∷ []) ∙ omega (arith, total_below-range_from a n f)

pub total_below-range : (n : ℕ) (f : ℕ → ℕ) → sum_by f (range_with_len 0 n) ≡ total_below n f
total_below-range n f = total_below-range_from 0 n f ∙ total_below-same n (λ i. f (0 + i)) f (λ i l. ap f (omega arith))

-- ---- a list whose elements have keys below n
module _ {X : Type 0} where
  pub sum_by-total_below : (h : X → ℕ → ℕ) (n : ℕ) (xs : List X) → sum_by (λ x. total_below n (λ i. h x i)) xs ≡ total_below n (λ i. sum_by (λ x. h x i) xs)
  sum_by-total_below h n [] = sym (total_below-constant n 0 ∙ omega arith)
  sum_by-total_below h n (x ∷ xs) =
      sum_by-cons (λ y. total_below n (λ i. h y i)) x xs
      ∙ ap (λ k. total_below n (λ i. h x i) + k) (sum_by-total_below h n xs)
      ∙ sym (total_below-same n (λ i. sum_by (λ y. h y i) (x ∷ xs)) (λ i. h x i + sum_by (λ y. h y i) xs) (λ i l. sum_by-cons (λ y. h y i) x xs)
      ∙ total_below-add n (λ i. h x i) (λ i. sum_by (λ y. h y i) xs))

  -- a sum by key
  pub sum_by-by_key : (key f : X → ℕ) (n : ℕ) (xs : List X) → All (λ x. key x < n) xs → sum_by f xs ≡ total_below n (λ i. sum_by (λ x. cond (eqb (key x) i) (f x) 0) xs)
  sum_by-by_key key f n xs h =
      sum_by-same f (λ x. total_below n (λ i. cond (eqb (key x) i) (f x) 0)) xs (λ k d l. sym (total_below-only n (λ _. f (get_or xs k d)) (key (get_or xs k d)) (h k d l)))
      ∙ sum_by-total_below (λ x i. cond (eqb (key x) i) (f x) 0) n xs

  pub sum_by-by_key_filter : (key f : X → ℕ) (n : ℕ) (xs : List X) → All (λ x. key x < n) xs → sum_by f xs ≡ total_below n (λ i. sum_by f (filter (λ x. eqb (key x) i) xs))
  sum_by-by_key_filter key f n xs h = sum_by-by_key key f n xs h ∙ total_below-same n _ _ (λ i l. sym (sum_by-filter f (λ x. eqb (key x) i) xs))

  pub sum_by-cond : (b : Bool) (f : X → ℕ) (xs : List X) → sum_by (λ x. cond b (f x) 0) xs ≡ cond b (sum_by f xs) 0
  sum_by-cond true f xs = refl
  sum_by-cond false f xs = sum_by-none (λ _. 0) xs (λ k d l. refl)

  -- the same for what passes a test on the key
  pub sum_by-by_key_test : (key f : X → ℕ) (test : ℕ → Bool) (n : ℕ) (xs : List X) → All (λ x. key x < n) xs
      → sum_by (λ x. cond (test (key x)) (f x) 0) xs ≡ total_below n (λ i. cond (test i) (sum_by f (filter (λ x. eqb (key x) i) xs)) 0)
  sum_by-by_key_test key f test n xs h = sum_by-by_key key (λ x. cond (test (key x)) (f x) 0) n xs h ∙ total_below-same n _ _ (λ i l. one i)
    where
      swaps : (i k a : ℕ) → cond (eqb k i) (cond (test k) a 0) 0 ≡ cond (test i) (cond (eqb k i) a 0) 0
      swaps i k a = grind (arith, nat_tests)

      one : (i : ℕ) → sum_by (λ x. cond (eqb (key x) i) (cond (test (key x)) (f x) 0) 0) xs ≡ cond (test i) (sum_by f (filter (λ x. eqb (key x) i) xs)) 0
      one i = sum_by-agree _ _ xs (λ x. swaps i (key x) (f x))
          ∙ sum_by-cond (test i) (λ x. cond (eqb (key x) i) (f x) 0) xs ∙ ap (λ m. cond (test i) m 0) (sym (sum_by-filter f (λ x. eqb (key x) i) xs))

  pub AllPairs-head : (R : X → X → Type 0) (x : X) (xs : List X) → AllPairs R (x ∷ xs) → All (R x) xs
  AllPairs-head R x xs h k d l = h 0 (suc k) d (omega arith) (omega arith)

  pub AllPairs-tail : (R : X → X → Type 0) (x : X) (xs : List X) → AllPairs R (x ∷ xs) → AllPairs R xs
  AllPairs-tail R x xs h i j d a b = h (suc i) (suc j) d (omega arith) (omega arith)

  -- of two elements, one stands before the other, or they are the same
  pub AllPairs-contains : (R : X → X → Type 0) (xs : List X) (x y : X) → AllPairs R xs → Contains xs x → Contains xs y → R x y ⊎ ((x ≡ y) ⊎ R y x)
  AllPairs-contains R xs x y h (i, l, e) (j, m, f) =
      let fy = get_or_default xs j x y m ∙ f in
      elim (cases_order i j) [
        | inl same ↦ inr (inl (sym e ∙ ap (λ k. get_or xs k x) same ∙ fy))
        | inr (inl less) ↦ inl (subst₂ R e fy (h i j x less m))
        | inr (inr more) ↦ inr (inr (subst₂ R f (get_or_default xs i y x l ∙ e) (h j i y more l)))
      ]

  -- neighbours in a list are neighbours in the rest of it
  pub AllAdjacent-tail : (R : X → X → Type 0) (x : X) (xs : List X) → AllAdjacentBelow R (x ∷ xs) (length (x ∷ xs)) → AllAdjacentBelow R xs (length xs)
  AllAdjacent-tail R x xs h k d l = let next : suc k + 1 ≡ suc (k + 1) = omega arith in subst (λ n. R (get_or xs k d) (get_or (x ∷ xs) n d)) next (h (suc k) d (omega arith))

-- ---- a list of numbers below n
pub sum_by_counts : (f : ℕ → ℕ) (n : ℕ) (xs : List ℕ) → All (λ x. x < n) xs → sum_by f xs ≡ total_below n (λ i. f i * count_by (λ x. eqb x i) xs)
sum_by_counts f n xs h = sum_by-by_key (λ x. x) f n xs h ∙ total_below-same n _ _ (λ i l. one i)
  where
    term : (x i : ℕ) → cond (eqb x i) (f x) 0 ≡ f i * cond (eqb x i) 1 0
    term x i = grind (arith, nat_tests)

    one : (i : ℕ) → sum_by (λ x. cond (eqb x i) (f x) 0) xs ≡ f i * count_by (λ x. eqb x i) xs
    one i = sum_by-agree _ _ xs (λ x. term x i) ∙ sum_by-scale (f i) (λ x. cond (eqb x i) 1 0) xs

-- a number that stands in a list is counted
pub count-from_contains : (xs : List ℕ) (k : ℕ) → Contains xs k → 1 ≤ count_by (λ x. eqb x k) xs
count-from_contains xs k c = omega (arith, sum_by-contains (λ x. cond (eqb x k) 1 0) xs k c, cond-yes 1 (eq-eqb k k refl))

pub Contains-from_count : (xs : List ℕ) (k : ℕ) → 1 ≤ count_by (λ x. eqb x k) xs → Contains xs k
Contains-from_count xs k h =
    let (x, c, p) = sum_by-some (λ y. cond (eqb y k) 1 0) xs h in
    elim (cases_eq x k) [ inl e ↦ subst (Contains xs) e c | inr ne ↦ absurd (omega (arith, p, cond-no 1 (ne_eqb x k ne))) ]

-- the numbers below n stand in a list at most as often as it is long
at_most_one : (n x : ℕ) → total_below n (λ i. cond (eqb x i) 1 0) ≤ 1
at_most_one n x = elim (cases_lt x n) [
  | inl low ↦ omega (arith, total_below-only n (λ _. 1) x low)
  | inr past ↦ omega (arith, total_below-none n (λ i. cond (eqb x i) 1 0) (λ i l. cond-no 1 (ne_eqb x i (λ e. omega arith))))
]

pub counts_below : (n : ℕ) (xs : List ℕ) → total_below n (λ i. count_by (λ x. eqb x i) xs) ≤ length xs
counts_below n xs =
    let each = sum_by-mono (λ x. total_below n (λ i. cond (eqb x i) 1 0)) (λ _. 1) xs (λ k d l. at_most_one n (get_or xs k d)) in
    omega (arith, sum_by-total_below (λ x i. cond (eqb x i) 1 0) n xs, sum_by-constant 1 xs, each)

-- so fewer numbers than n miss one of them
pub missing : (n : ℕ) (xs : List ℕ) → length xs < n → (c : ℕ) × (c < n) × ¬ Contains xs c
missing n xs few =
    let count = λ (i : ℕ). count_by (λ x. eqb x i) xs in
    let both = total_below-add n (λ i. 1 - count i) count in
    let most = total_below-mono n (λ _. 1) (λ i. (1 - count i) + count i) (λ i l. omega arith) in
    let (c, l, p) = total_below-some n (λ i. 1 - count i) (omega (arith, few, counts_below n xs, both, most, total_below-constant n 1)) in
    (c, l, λ there. omega (arith, p, count-from_contains xs c there))

-- without repeats, each number is in it at most once
pub count_by-distinct : (xs : List ℕ) (i : ℕ) → AllPairs (λ x y. x ≢ y) xs → count_by (λ x. eqb x i) xs ≤ 1
count_by-distinct [] i h = omega arith
count_by-distinct (x ∷ xs) i h = elim (cases_eq x i) [
  | inl e ↦
      let none = sum_by-none (λ y. cond (eqb y i) 1 0) xs
      (λ k d l. cond-no 1 (ne_eqb (get_or xs k d) i (λ q. AllPairs-head (λ x y. x ≢ y) x xs h k d l (e ∙ sym q)))) in
      omega (arith, sum_by-cons (λ y. cond (eqb y i) 1 0) x xs, cond-yes 1 (eq-eqb x i e), none)
  | inr ne ↦
      let later = count_by-distinct xs i (AllPairs-tail (λ x y. x ≢ y) x xs h) in
      omega (arith, sum_by-cons (λ y. cond (eqb y i) 1 0) x xs, cond-no 1 (ne_eqb x i ne), later)
]

pub distinct_from_counts : (xs : List ℕ) → ((i : ℕ) → count_by (λ x. eqb x i) xs ≤ 1) → AllPairs (λ x y. x ≢ y) xs
distinct_from_counts [] h = λ i j d a b. absurd (omega arith)
distinct_from_counts (x ∷ xs) h = AllPairs-cons (λ x y. x ≢ y) x xs apart (distinct_from_counts xs (λ i. omega (arith, h i, sum_by-cons (λ y. cond (eqb y i) 1 0) x xs)))
  where
    apart : All (λ y. x ≢ y) xs
    apart k d l q =
        let v = get_or xs k d in
        let some : cond (eqb v v) 1 0 ≤ sum_by (λ y. cond (eqb y v) 1 0) xs = sum_by-contains (λ y. cond (eqb y v) 1 0) xs v (Contains-get_or xs k d l) in
        omega (arith, h v, sum_by-cons (λ y. cond (eqb y v) 1 0) x xs, some, cond-yes 1 (eq-eqb v v refl), cond-yes 1 (eq-eqb x v q))

-- without repeats and within a test, it sums to at most the test's total
pub sum_by-distinct_test : (f : ℕ → ℕ) (test : ℕ → Bool) (n : ℕ) (xs : List ℕ)
    → All (λ x. x < n) xs → AllPairs (λ x y. x ≢ y) xs → All (λ x. test x ≡ true) xs → sum_by f xs ≤ total_below n (λ i. cond (test i) (f i) 0)
sum_by-distinct_test f test n xs h u t =
    let same : sum_by f xs ≡ sum_by (λ x. cond (test x) (f x) 0) xs = sum_by-same f _ xs (λ k d l. sym (cond-yes (f (get_or xs k d)) (t k d l))) in
    omega (
      arith,
      same,
      sum_by_counts (λ x. cond (test x) (f x) 0) n xs h,
      total_below-mono n (λ i. cond (test i) (f i) 0 * count_by (λ x. eqb x i) xs)
          (λ i. cond (test i) (f i) 0) (λ i l. omega (arith, mul-le-mul_left (cond (test i) (f i) 0) (count_by-distinct xs i u))),
    )

sum_by-take : {X : Type 0} (f : X → ℕ) (xs : List X) (d : X) (k : ℕ) → k ≤ length xs → sum_by f (take k xs) ≡ total_below k (λ j. f (get_or xs j d))
sum_by-take f xs d zero l = refl
sum_by-take f xs d (suc k) l =
    ap (λ n. sum_by f (take n xs)) (sym (add-one k)) ∙ sum_by-take_more f xs k d (omega arith) ∙ ap (λ n. n + f (get_or xs k d)) (sum_by-take f xs d k (omega arith))

pub sum_by-places : {X : Type 0} (f : X → ℕ) (xs : List X) (d : X) → sum_by f xs ≡ total_below (length xs) (λ j. f (get_or xs j d))
sum_by-places f xs d = ap (sum_by f) (sym (take_all (length xs) xs (omega arith))) ∙ sum_by-take f xs d (length xs) (omega arith)

-- ---- a list that holds each number below n once
pub record OnceBelow (n : ℕ) (xs : List ℕ) : Type 0 where
  pub within : All (λ x. x < n) xs
  pub once : (i : ℕ) → i < n → count_by (λ x. eqb x i) xs ≡ 1

pub sum_by-OnceBelow : (f : ℕ → ℕ) {n : ℕ} {xs : List ℕ} → OnceBelow n xs → sum_by f xs ≡ total_below n f
sum_by-OnceBelow f {n} {xs} o = sum_by_counts f n xs o.within ∙ total_below-same n _ _ (λ i l. ap (λ k. f i * k) (o.once i l) ∙ omega arith)

pub length-OnceBelow : {n : ℕ} {xs : List ℕ} → OnceBelow n xs → length xs ≡ n
length-OnceBelow {n} {xs} o = omega (arith, sum_by-constant 1 xs, sum_by-OnceBelow (λ _. 1) o, total_below-constant n 1)

pub OnceBelow-contains : {n : ℕ} {xs : List ℕ} → OnceBelow n xs → (i : ℕ) → i < n → Contains xs i
OnceBelow-contains {n} {xs} o i l = Contains-from_count xs i (omega (arith, o.once i l))

pub OnceBelow-permutation : {n : ℕ} {xs ys : List ℕ} → OnceBelow n xs → IsPermutation xs ys → OnceBelow n ys
OnceBelow-permutation {n} {xs} {ys} o p = record { within = All-permutation (λ x. x < n) xs ys p o.within; once = λ i l. sum_by-IsPermutation (λ x. cond (eqb x i) 1 0) xs ys p ∙ o.once i l }

pub OnceBelow-range : (n : ℕ) → OnceBelow n (range_with_len 0 n)
OnceBelow-range n = record {
  within = λ k d l. let short = length-range_with_len 0 n in omega (arith, get_or-range_with_len 0 n k d (omega arith));
  once = λ i l. total_below-range n (λ x. cond (eqb x i) 1 0) ∙ total_below-same n _ _ (λ k m. ap (λ b. cond b 1 0) (eqb_comm k i)) ∙ total_below-only n (λ _. 1) i l;
}

pub OnceBelow-from_permutation : {n : ℕ} {xs : List ℕ} → IsPermutation (range_with_len 0 n) xs → OnceBelow n xs
OnceBelow-from_permutation {n} {xs} p = OnceBelow-permutation (OnceBelow-range n) p

pub OnceBelow-from_distinct : (n : ℕ) (xs : List ℕ) → length xs ≡ n → All (λ x. x < n) xs → AllPairs (λ x y. x ≢ y) xs → OnceBelow n xs
OnceBelow-from_distinct n xs len h u = record {
  within = h;
  once =
      let whole = sum_by_counts (λ _. 1) n xs h ∙ total_below-scale n 1 (λ i. count_by (λ x. eqb x i) xs) in
      total_below-tight n (λ i. count_by (λ x. eqb x i) xs) (λ _. 1) (λ i l. count_by-distinct xs i u)
      (omega (arith, whole, total_below-constant n 1, sum_by-constant 1 xs));
}

pub OnceBelow-distinct : {n : ℕ} {xs : List ℕ} → OnceBelow n xs → AllPairs (λ x y. x ≢ y) xs
OnceBelow-distinct {n} {xs} o = distinct_from_counts xs (λ i. elim (cases_lt i n) [
  | inl b ↦ omega (arith, o.once i b)
  | inr past ↦ omega (arith, sum_by-none (λ x. cond (eqb x i) 1 0) xs (λ k d l. cond-no 1 (ne_eqb _ i (λ q. omega (arith, o.within k d l, past)))))
])
