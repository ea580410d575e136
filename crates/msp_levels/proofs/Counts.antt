-- How many jobs of a list have a level, and that a slot of the rule leaves no more jobs of high levels than fit the moments that are left.
use Rattle.std.proofs.Common.{◌≡◌, ◌≢◌, ℕ, zero, suc, ◌+◌, ◌-◌, ◌*◌, ◌<◌, ◌≤◌, ◌⊎◌, inl, inr, Bool, true, false, not, cond, eqb, leb, List, [], ◌∷◌, ◌++◌, length, get_or, filter, add-sub_of_le}
use Rattle.std.proofs.Common.{count_by, sum_by, All, Contains, IsPermutation, refl, sym, ap, ◌∙◌, arith}
use Rattle.std.proofs.lemmas.Bool.{cases_lt, eqb-true, eq-eqb, false≢true}
use Rattle.std.proofs.lemmas.Bool.Decides.{nat_tests}
use Rattle.std.proofs.lemmas.List.Elements.{All-head, All-tail, All-cons, All-filter, All-contains, filter_passes, Contains-get_or, Contains-append_left, Contains-append_right}
use Rattle.std.proofs.lemmas.List.Sums.{length-filter, count_by-le-length, sum_by-append}
use Rattle.std.proofs.lemmas.List.Filters.{length-filter_both, sum_by-filter_both}
use Rattle.std.proofs.lemmas.List.Sorted.{sum_by-IsPermutation, Contains-permutation, IsPermutation-sym}
use native.Mathlib.Nat.{lt_of_mul-lt-mul_left}
use Rattle.msp_class.proofs.Sums.{Contains-tail, Contains-filter, Contains-from_filter, sum_by-contains, sum_by-agree, sum_by-add, sum_by-none, sum_by-same, sum_by-constant}
use Rattle.msp_levels.specs.Steps.{level_from, Fits}

-- ---- lists without repeats
abbrev pub HasOnce : List ℕ → Type 0
HasOnce xs = (k : ℕ) → count_by (λ x. eqb x k) xs ≤ 1

pub HasOnce-filter : (p : ℕ → Bool) (xs : List ℕ) → HasOnce xs → HasOnce (filter p xs)
HasOnce-filter p xs h k = omega (arith, h k, sum_by-filter_both p (λ x. not (p x)) (λ x. refl) (λ x. cond (eqb x k) 1 0) xs)

-- a list without repeats is no longer than one whose members give all of its members
pub cover : (f : ℕ → ℕ) (xs ys : List ℕ) → HasOnce ys → All (λ y. (x : ℕ) × Contains xs x × (f x ≡ y)) ys → length ys ≤ length xs
cover f [] [] once h = omega arith
cover f [] (y ∷ ys) once h = let (x, (k, l, e), g) = h 0 y (omega arith) in absurd (omega (arith, l))
cover f (x ∷ xs) ys once h =
    let few = cover f xs (filter other ys) (HasOnce-filter other ys once) others in
    omega (arith, few, length-filter_both here other (λ y. refl) ys, length-filter here ys, once (f x))
  where
    here : ℕ → Bool
    here y = eqb y (f x)

    other : ℕ → Bool
    other y = not (eqb y (f x))

    others : All (λ y. (x : ℕ) × Contains xs x × (f x ≡ y)) (filter other ys)
    others k d l =
        let (z, c, e) = All-filter other (λ y. (z : ℕ) × Contains (x ∷ xs) z × (f z ≡ y)) ys h k d l in
        let passes : other (get_or (filter other ys) k d) ≡ true = filter_passes other ys k d l in
        (z, Contains-tail x xs z c (λ same. absurd (false≢true (sym (ap not (eq-eqb _ (f x) (sym e ∙ ap f (sym same)))) ∙ passes))), e)

-- ---- levels
abbrev pub level_at : (ℕ → ℕ) → ℕ → List ℕ → ℕ
level_at level t xs = sum_by (λ j. cond (eqb (level j) t) 1 0) xs

from_next : (level : ℕ → ℕ) (t : ℕ) (xs : List ℕ) → level_from level t xs ≡ level_at level t xs + level_from level (t + 1) xs
from_next level t xs =
    sum_by-agree (λ j. cond (leb t (level j)) 1 0) (λ j. cond (eqb (level j) t) 1 0 + cond (leb (t + 1) (level j)) 1 0) xs
    (λ j. grind (arith, nat_tests)) ∙ sum_by-add (λ j. cond (eqb (level j) t) 1 0) (λ j. cond (leb (t + 1) (level j)) 1 0) xs

none_from : (level : ℕ → ℕ) (t : ℕ) (xs : List ℕ) → All (λ j. level j < t) xs → level_from level t xs ≡ 0
none_from level t xs h = sum_by-none (λ j. cond (leb t (level j)) 1 0) xs (λ k d l. grind (arith, nat_tests, h k d l))

all_from : (level : ℕ → ℕ) (t : ℕ) (xs : List ℕ) → All (λ j. t ≤ level j) xs → level_from level t xs ≡ length xs
all_from level t xs h = omega (arith, sum_by-same (λ j. cond (leb t (level j)) 1 0) (λ _. 1) xs (λ k d l. grind (arith, nat_tests, h k d l)), sum_by-constant 1 xs)

some_from : (level : ℕ → ℕ) (xs : List ℕ) (j : ℕ) → Contains xs j → 1 ≤ level_from level (level j) xs
some_from level xs j c = grind (arith, nat_tests, sum_by-contains (λ k. cond (leb (level j) (level k)) 1 0) xs j c)

-- ---- one slot
all_or : {X : Type 0} (P : X → Type 0) (Q : Type 0) (xs : List X) → All (λ x. P x ⊎ Q) xs → All P xs ⊎ Q
all_or P Q [] h = inl (λ k d l. absurd (omega (arith, l)))
all_or P Q (x ∷ xs) h = elim (All-head (λ x. P x ⊎ Q) x xs h) [
  | inr q ↦ inr q
  | inl p ↦ elim (all_or P Q xs (All-tail (λ x. P x ⊎ Q) x xs h)) [ inl ps ↦ inl (All-cons P x xs p ps) | inr q ↦ inr q ]
]

pub Fits-low : (m : ℕ) (level : ℕ → ℕ) (xs : List ℕ) (g : ℕ) → Fits m level xs g → All (λ j. level j < g) xs
Fits-low m level xs g h k d l = lt_of_mul-lt-mul_left m (omega (arith, h k d l, some_from level xs (get_or xs k d) (Contains-get_or xs k d l)))

module _ (m : ℕ) (level after : ℕ → ℕ) (blocked : ℕ → Bool) (left taken rest : List ℕ) (perm : IsPermutation left (taken ++ rest)) (few : length taken ≤ m) (once : HasOnce left)
    (kept : All (λ j. (blocked j ≡ true) ⊎ ((length taken ≡ m) × All (λ f. level j ≤ level f) taken)) rest)
    (why : All (λ j. blocked j ≡ true → (a : ℕ) × Contains left a × (after a ≡ j) × (level a ≡ level j + 1)) left) where
  split : (f : ℕ → ℕ) → sum_by f left ≡ sum_by f taken + sum_by f rest
  split f = sym (sum_by-IsPermutation f left (taken ++ rest) perm) ∙ sum_by-append f taken rest

  in_left : (j : ℕ) → Contains rest j → Contains left j
  in_left j c = Contains-permutation (taken ++ rest) left j (IsPermutation-sym left (taken ++ rest) perm) (Contains-append_right taken rest j c)

  taken_in_left : (j : ℕ) → Contains taken j → Contains left j
  taken_in_left j c = Contains-permutation (taken ++ rest) left j (IsPermutation-sym left (taken ++ rest) perm) (Contains-append_left taken rest j c)

  -- the jobs of a level that are left because they are blocked are no more than those of the next level
  width : (t : ℕ) → All (λ j. t ≤ level j → blocked j ≡ true) rest → level_at level t rest ≤ level_at level (t + 1) left
  width t h = omega (arith, cover after above here (HasOnce-filter at rest once_rest) each, length-filter at rest, length-filter over left)
    where
      at : ℕ → Bool
      at j = eqb (level j) t

      over : ℕ → Bool
      over j = eqb (level j) (t + 1)

      here : List ℕ
      here = filter at rest

      above : List ℕ
      above = filter over left

      once_rest : HasOnce rest
      once_rest k = omega (arith, once k, split (λ x. cond (eqb x k) 1 0))

      each : All (λ j. (a : ℕ) × Contains above a × (after a ≡ j)) here
      each k d l =
          let j = get_or here k d in
          let (c, e) = Contains-from_filter at rest j (Contains-get_or here k d l) in
          let is : level j ≡ t = eqb-true (level j) t e in
          let shut = All-contains (λ j. t ≤ level j → blocked j ≡ true) rest j h c (omega (arith, is)) in
          let (a, ca, to, step) = All-contains (λ j. blocked j ≡ true → (a : ℕ) × Contains left a × (after a ≡ j) × (level a ≡ level j + 1)) left j why (in_left j c) shut in
          (a, Contains-filter over left a ca (eq-eqb (level a) (t + 1) (omega (arith, step, is))), to)

  module _ (g : ℕ) (low : All (λ j. level j ≤ g) left) where
    low_rest : (t : ℕ) → g < t → All (λ j. level j < t) rest
    low_rest t h k d l = let b = All-contains (λ j. level j ≤ g) left (get_or rest k d) low (in_left (get_or rest k d) (Contains-get_or rest k d l)) in omega (arith, b, h)

    low_taken : (t : ℕ) → g < t → All (λ j. level j < t) taken
    low_taken t h k d l = let b = All-contains (λ j. level j ≤ g) left (get_or taken k d) low (taken_in_left (get_or taken k d) (Contains-get_or taken k d l)) in omega (arith, b, h)

    -- where all that is left from a level on is blocked: the jobs of a level are no more than those taken of higher ones
    narrow : (d t : ℕ) → t + d ≡ g → All (λ j. t ≤ level j → blocked j ≡ true) rest → (level_at level t rest ≤ level_from level (t + 1) taken) × (level_from level t rest ≤ m * d)
    narrow zero t e h =
        let here : level_at level t rest ≤ level_from level (t + 1) taken = omega (
          arith,
          width t h,
          from_next level (t + 1) left,
          none_from level (t + 1) taken
              (low_taken (t + 1) (omega (arith, e))),
          none_from level (t + 1) rest (low_rest (t + 1) (omega (arith, e))),
          split (λ j. cond (leb (t + 1) (level j)) 1 0),
        ) in
        (here, omega (arith, here, from_next level t rest, none_from level (t + 1) taken (low_taken (t + 1) (omega (arith, e))), none_from level (t + 1) rest (low_rest (t + 1) (omega (arith, e)))))
    narrow (suc d) t e h =
        let (a, b) = narrow d (t + 1) (omega (arith, e)) (λ k x l w. h k x l (omega (arith, w))) in
        let here : level_at level t rest ≤ level_from level (t + 1) taken = omega (arith, width t h, split (λ j. cond (eqb (level j) (t + 1)) 1 0), a, from_next level (t + 1) taken) in
        let room : m * suc d ≡ m + m * d = omega arith in
        (here, omega (arith, here, from_next level t rest, b, count_by-le-length (λ j. leb (t + 1) (level j)) taken, few, room))

    pub Fits-next : Fits m level left (g + 1) → Fits m level rest g
    Fits-next h k d l = elim (all_or (λ r. t ≤ level r → blocked r ≡ true) Full rest either) [
      | inl shut ↦
          let (a, b) = narrow (g - t) t (omega (arith, below)) shut in
          omega (arith, b, ap (λ n. m * n) (add-sub_of_le below))
      | inr full ↦ omega (arith, all_from level t taken full.1, full.0, split (λ j. cond (leb t (level j)) 1 0), old)
    ]
      where
        j : ℕ
        j = get_or rest k d

        t : ℕ
        t = level j

        here : Contains left j
        here = in_left j (Contains-get_or rest k d l)

        below : t ≤ g
        below = All-contains (λ j. level j ≤ g) left j low here

        old : level_from level t left + m * t ≤ m * (g + 1)
        old = All-contains (λ j. level_from level (level j) left + m * level j ≤ m * (g + 1)) left j h here

        Full : Type 0
        Full = (length taken ≡ m) × All (λ f. t ≤ level f) taken

        either : All (λ r. (t ≤ level r → blocked r ≡ true) ⊎ Full) rest
        either n x b = elim (cases_lt (level (get_or rest n x)) t) [
          | inl less ↦ inl (λ w. absurd (omega (arith, less, w)))
          | inr more ↦ elim (kept n x b) [
            | inl shut ↦ inl (λ _. shut)
            | inr full ↦ inr (full.0, λ p q w. let u = full.1 p q w in omega (arith, u, more))
          ]
        ]
