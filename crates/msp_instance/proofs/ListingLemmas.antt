-- Lemmas on lists of the numbers below n that pass a test.
use Rattle.std.proofs.Common.{◌≡◌, ◌≢◌, ℕ, ◌+◌, ◌*◌, ◌<◌, ◌≤◌, Bool, true, false, cond, ◌==◌, eqb, ltb, List, [], ◌∷◌, ◌++◌, length, get_or, take, filter, count_by, All, AllPairs}
use Rattle.std.proofs.Common.{Contains, inl, inr, refl, sym, ap, ◌∙◌, subst, arith}
use Rattle.std.specs.List.{list_any, range_with_len}
use Rattle.std.proofs.lemmas.Bool.{cases_Bool, eqb-true, eqb-false, eq-eqb, ne_eqb, ltb-true, ltb-false, cases_order}
use Rattle.std.proofs.lemmas.List.{get_or_default, get_or-take, length-take}
use Rattle.std.proofs.lemmas.List.Folds.{Any-from_list_any, list_any-from_Any}
use Rattle.std.proofs.lemmas.List.Sums.{sum_by_push}
use Rattle.std.proofs.lemmas.List.Elements.{All-push, All-contains, All-filter}
use Rattle.msp_class.proofs.Sums.{cond-yes, cond-no, eqb_comm, sum_by-constant, sum_by-filter, sum_by-agree, sum_by-none, sum_by_counts}
use Rattle.msp_class.proofs.Sums.{total_below-range, total_below-mono, total_below-only, total_below-constant, OnceBelow-range, distinct_from_counts}
use Rattle.msp_instance.specs.Listing.{IsListing}
pub use Rattle.msp_class.proofs.Sums.{count-from_contains, Contains-from_count}
use Rattle.msp_class.proofs.Sums.{cond-zero, cond-le}

-- ---- membership as a test
pub list_any-from_Contains : (xs : List ℕ) (j : ℕ) → Contains xs j → list_any (λ x. x == j) xs ≡ true
list_any-from_Contains xs j c = list_any-from_Any (λ x. x == j) xs (c.0, j, c.1, c.2, eq-eqb j j refl)

pub Contains-from_list_any : (xs : List ℕ) (j : ℕ) → list_any (λ x. x == j) xs ≡ true → Contains xs j
Contains-from_list_any xs j h = let a = Any-from_list_any (λ x. x == j) xs h in subst (Contains xs) (eqb-true _ _ a.4) (a.0, a.2, a.3)

module _ {X : Type 0} where
  pub Contains-take : (xs : List X) (m n : ℕ) (x : X) → m ≤ n → Contains (take m xs) x → Contains (take n xs) x
  Contains-take xs m n x h c =
      let at : c.0 < m = omega (arith, c.1, length-take m xs) in
      (c.0, omega (arith, c.1, length-take m xs, length-take n xs), get_or-take n xs c.0 x (omega arith) ∙ sym (get_or-take m xs c.0 x at) ∙ c.2)

  pub Contains-from_take : (xs : List X) (m : ℕ) (x : X) → Contains (take m xs) x → Contains xs x
  Contains-from_take xs m x c =
      let at : c.0 < m = omega (arith, c.1, length-take m xs) in
      (c.0, omega (arith, c.1, length-take m xs), sym (get_or-take m xs c.0 x at) ∙ c.2)

  -- what stands in a list stands in one that begins with it
  pub Contains-kept : (old new : List X) (x : X) → take (length old) new ≡ old → Contains old x → Contains new x
  Contains-kept old new x kept c = Contains-from_take new (length old) x (subst (λ l. Contains l x) (sym kept) c)

  pub get_or-kept : (old new : List X) (k : ℕ) (d : X) → take (length old) new ≡ old → k < length old → get_or new k d ≡ get_or old k d
  get_or-kept old new k d kept t = sym (get_or-take (length old) new k d t) ∙ ap (λ l. get_or l k d) kept

  pub length-kept : (old new : List X) → take (length old) new ≡ old → length old ≤ length new
  length-kept old new kept = omega (arith, length-take (length old) new, ap length kept)

count_push : (xs : List ℕ) (j k : ℕ) → count_by (λ x. x == k) (xs ++ j ∷ []) ≡ count_by (λ x. x == k) xs + cond (j == k) 1 0
count_push xs j k = sum_by_push (λ x. cond (x == k) 1 0) xs j

-- ---- listings
pub IsListing-filter : (n : ℕ) (test : ℕ → Bool) → IsListing n test (filter test (range_with_len 0 n))
IsListing-filter n test = record { inside = All-filter test (λ x. x < n) (range_with_len 0 n) (OnceBelow-range n).within; each = each }
  where
    turned : (a b : Bool) → cond {A = ℕ} a (cond b 1 0) 0 ≡ cond b (cond a 1 0) 0
    turned true b = refl
    turned false b = sym (cond-zero b refl)

    each : (k : ℕ) → k < n → count_by (λ x. x == k) (filter test (range_with_len 0 n)) ≡ cond (test k) 1 0
    each k t =
        sum_by-filter (λ x. cond (x == k) 1 0) test (range_with_len 0 n)
        ∙ sum_by-agree (λ x. cond (test x) (cond (x == k) 1 0) 0) (λ x. cond (eqb k x) (cond (test x) 1 0) 0)
        (range_with_len 0 n) (λ x. turned (test x) (eqb x k) ∙ ap (λ b. cond b (cond {A = ℕ} (test x) 1 0) 0) (eqb_comm x k))
        ∙ total_below-range n (λ x. cond (eqb k x) (cond (test x) 1 0) 0)
        ∙ total_below-only n (λ x. cond (test x) 1 0) k t

pub IsListing-same : (n : ℕ) (test other : ℕ → Bool) (xs : List ℕ) → ((k : ℕ) → k < n → other k ≡ test k) → IsListing n test xs → IsListing n other xs
IsListing-same n test other xs e h = record { inside = h.inside; each = λ k t. h.each k t ∙ ap (λ b. cond b 1 0) (sym (e k t)) }

-- a number that begins to pass goes to the end of the list
pub IsListing-push : (n : ℕ) (test other : ℕ → Bool) (xs : List ℕ) (j : ℕ)
    → j < n → test j ≡ false → other j ≡ true → ((k : ℕ) → k < n → k ≢ j → other k ≡ test k) → IsListing n test xs → IsListing n other (xs ++ j ∷ [])
IsListing-push n test other xs j inside before now same h = record { inside = All-push (λ x. x < n) xs j h.inside inside; each = each }
  where
    each : (k : ℕ) → k < n → count_by (λ x. x == k) (xs ++ j ∷ []) ≡ cond (other k) 1 0
    each k t = elim (cases_Bool (j == k)) [
      | inl hit ↦
          let e : j ≡ k = eqb-true j k hit in
          omega (arith, count_push xs j k, cond-yes 1 hit, h.each k t, cond-no 1 (ap test (sym e) ∙ before), cond-yes 1 (ap other (sym e) ∙ now))
      | inr miss ↦
          let e : other k ≡ test k = same k t (λ q. eqb-false j k miss (sym q)) in
          omega (arith, count_push xs j k, cond-no 1 miss, h.each k t, ap {B = ℕ} (λ b. cond b 1 0) e)
    ]

pub IsListing-once : (n : ℕ) (test : ℕ → Bool) (xs : List ℕ) → IsListing n test xs → (k : ℕ) → count_by (λ x. x == k) xs ≤ 1
IsListing-once n test xs h k = elim (cases_Bool (ltb k n)) [
  | inl below ↦ omega (arith, h.each k (ltb-true k n below), cond-le (test k) 1)
  | inr past ↦ omega (arith, sum_by-none (λ x. cond (x == k) 1 0) xs (λ i d t. cond-no 1 (ne_eqb (get_or xs i d) k (λ q. omega (arith, q, h.inside i d t, ltb-false k n past)))))
]

pub IsListing-distinct : (n : ℕ) (test : ℕ → Bool) (xs : List ℕ) → IsListing n test xs → AllPairs (λ x y. x ≢ y) xs
IsListing-distinct n test xs h = distinct_from_counts xs (IsListing-once n test xs h)

-- numbers below n, each at most once, are at most n
pub length-once : (n : ℕ) (xs : List ℕ) → All (λ x. x < n) xs → ((k : ℕ) → count_by (λ x. x == k) xs ≤ 1) → length xs ≤ n
length-once n xs h once =
    omega (
      arith,
      sum_by-constant 1 xs,
      sum_by_counts (λ _. 1) n xs h,
      total_below-mono n (λ i. 1 * count_by (λ x. x == i) xs) (λ _. 1) (λ i t. omega (arith, once i)),
      total_below-constant n 1,
    )

pub IsListing-length : (n : ℕ) (test : ℕ → Bool) (xs : List ℕ) → IsListing n test xs → length xs ≤ n
IsListing-length n test xs h = length-once n xs h.inside (IsListing-once n test xs h)

pub IsListing-contains : (n : ℕ) (test : ℕ → Bool) (xs : List ℕ) → IsListing n test xs → (k : ℕ) → k < n → test k ≡ true → Contains xs k
IsListing-contains n test xs h k t e = Contains-from_count xs k (omega (arith, h.each k t, cond-yes 1 e))

pub IsListing-passes : (n : ℕ) (test : ℕ → Bool) (xs : List ℕ) → IsListing n test xs → (k : ℕ) → Contains xs k → (k < n) × (test k ≡ true)
IsListing-passes n test xs h k c = (inside, elim (cases_Bool (test k)) [ inl e ↦ e | inr e ↦ absurd (omega (arith, count-from_contains xs k c, h.each k inside, cond-no 1 e)) ])
  where
    inside : k < n
    inside = All-contains (λ x. x < n) xs k h.inside c

-- a number of a list without repeats has one place
pub one_place : (xs : List ℕ) (p q : ℕ) → AllPairs (λ j k. j ≢ k) xs → p < length xs → q < length xs → get_or xs p 0 ≡ get_or xs q 0 → p ≡ q
one_place xs p q apart in_p in_q same = elim (cases_order p q) [
  | inl e ↦ e
  | inr (inl less) ↦ absurd (apart p q 0 less in_q same)
  | inr (inr greater) ↦ absurd (apart q p 0 greater in_p (sym same))
]

-- and does not stand before it
pub not_before_itself : (xs : List ℕ) (i : ℕ) → AllPairs (λ x y. x ≢ y) xs → i < length xs → ¬ Contains (take i xs) (get_or xs i 0)
not_before_itself xs i h t c =
    let at : c.0 < i = omega (arith, c.1, length-take i xs) in
    let j = get_or xs i 0 in
    h c.0 i 0 at t (get_or_default xs c.0 0 j (omega arith) ∙ sym (get_or-take i xs c.0 j at) ∙ c.2)
