-- Numbers that stand once in a list, by what is seen.
use Rattle.std.proofs.Common.{◌≡◌, ◌≢◌, ℕ, ◌+◌, ◌-◌, ◌<◌, ◌≤◌, inl, inr, Bool, true, false, cond, List, [], ◌∷◌, ◌++◌, reverse, length, map, get_or, count_by, All, AllPairs}
use Rattle.std.proofs.Common.{sym, ap, ap₂, subst, subst₂, ◌∙◌, arith, add-one}
use Rattle.std.specs.Prelude.{slice_set as set}
use Rattle.std.specs.List.{range_with_len}
use Rattle.std.specs.List.Sorted.{IsNonDecreasing}
use Rattle.std.proofs.lemmas.List.FromFn.{map-range_with_len_more}
use Rattle.std.proofs.lemmas.List.{get_or_default, length-set, length-reverse, get_or-reverse, get_or-set_other}
use Rattle.std.proofs.lemmas.Grind.{get_or-set_at}
use Rattle.std.proofs.lemmas.Bool.{false≢true}
use Rattle.msp_class.specs.declared.sizes.TheConstants.{MOST_JOBS}
use Rattle.msp_class.proofs.Cases.{same_or_not}
use Rattle.msp_class.proofs.Sums.{total_below-range}
use Rattle.msp_class.specs.Sums.{total_below}

-- the first k numbers stand once, and are seen, and no other number is
pub record AreSeen (jobs : List ℕ) (k : ℕ) (seen : List Bool) : Type 0 where
  pub long : length seen ≡ MOST_JOBS
  pub apart : (p q : ℕ) → p < q → q < k → get_or jobs p 0 ≢ get_or jobs q 0
  pub back : (j : ℕ) → j < MOST_JOBS → get_or seen j false ≡ true → (p : ℕ) × (p < k) × (get_or jobs p 0 ≡ j)
  pub there : (p : ℕ) → p < k → get_or seen (get_or jobs p 0) false ≡ true

pub none_seen : (jobs : List ℕ) (seen : List Bool) → length seen ≡ MOST_JOBS → ((j : ℕ) → j < MOST_JOBS → get_or seen j false ≡ false) → AreSeen jobs 0 seen
none_seen jobs seen long h = record {
  long = long;
  apart = λ p q a b. absurd (omega (arith, b));
  back = λ j l e. absurd (false≢true (sym (h j l) ∙ e));
  there = λ p l. absurd (omega (arith, l));
}

pub seen_before : (jobs : List ℕ) (k : ℕ) (seen : List Bool)
    → All (λ j. j < MOST_JOBS) jobs → AreSeen jobs k seen → k < length jobs → get_or seen (get_or jobs k 0) false ≡ true → ¬ AllPairs (λ x y. x ≢ y) jobs
seen_before jobs k seen h s l e apart =
    let (p, b, is) = s.back (get_or jobs k 0) (h k 0 l) e in
    apart p k 0 b l is

pub seen_next : (jobs : List ℕ) (k : ℕ) (seen : List Bool) → All (λ j. j < MOST_JOBS) jobs
    → AreSeen jobs k seen → k < length jobs → get_or seen (get_or jobs k 0) false ≡ false → AreSeen jobs (k + 1) (set seen (get_or jobs k 0) true)
seen_next jobs k seen h s l new = record {
  long = length-set seen (get_or jobs k 0) true ∙ s.long;
  apart = λ p q a b e. elim (same_or_not q k) [
    | inl is ↦ false≢true (sym new ∙ ap (λ x. get_or seen x false) (sym (e ∙ ap (λ x. get_or jobs x 0) is)) ∙ s.there p (omega (arith, a, is)))
    | inr other ↦ s.apart p q a (omega (arith, b, other)) e
  ];
  back = λ j b e. elim (same_or_not j (get_or jobs k 0)) [
    | inl is ↦ (k, omega arith, sym is)
    | inr other ↦ let (p, m, is) = s.back j b (sym (get_or-set_other seen (get_or jobs k 0) j true false other) ∙ e) in (p, omega (arith, m), is)
  ];
  there = λ p b. elim (same_or_not (get_or jobs p 0) (get_or jobs k 0)) [
    | inl is ↦ get_or-set_at seen (get_or jobs k 0) (get_or jobs p 0) true false is (omega (arith, h k 0 l, s.long))
    | inr other ↦
        let ne : p ≢ k = λ e. other (ap (λ x. get_or jobs x 0) e) in
        get_or-set_other seen (get_or jobs k 0) (get_or jobs p 0) true false other ∙ s.there p (omega (arith, b, ne))
  ];
}

pub all_apart : (jobs : List ℕ) (k : ℕ) (seen : List Bool) → AreSeen jobs k seen → length jobs ≤ k → AllPairs (λ x y. x ≢ y) jobs
all_apart jobs k seen s many p q d l b e =
    s.apart p q l (omega (arith, b, many)) (sym (get_or_default jobs p d 0 (omega (arith, l, b))) ∙ e ∙ get_or_default jobs q d 0 b)

pub range_next : {X : Type 0} (f : ℕ → X) (old new : List X) (k : ℕ) (x : X) → new ≡ old ++ x ∷ [] → x ≡ f k → old ≡ map f (range_with_len 0 k) → new ≡ map f (range_with_len 0 (k + 1))
range_next f old new k x e one so_far = e ∙ ap₂ (λ l y. l ++ y ∷ []) so_far one ∙ sym (map-range_with_len_more f 0 k k (omega arith))

pub turned : (xs ys : List ℕ) → ys ≡ reverse xs → IsNonDecreasing xs → AllPairs (λ x y. y ≤ x) ys
turned xs ys e h = subst (AllPairs (λ x y. y ≤ x)) (sym e) (λ p q d l b.
    let m : q < length xs = omega (arith, b, length-reverse xs) in
    subst₂ (λ u v. u ≤ v) (sym (get_or-reverse xs q d m)) (sym (get_or-reverse xs p d (omega (arith, l, m)))) (h (length xs - 1 - q) (length xs - 1 - p) d (omega (arith, l, m)) (omega (arith, l, m))))

pub count_next : (test : ℕ → Bool) (old k one : ℕ) → one ≡ cond (test k) 1 0 → old ≡ count_by test (range_with_len 0 k) → old + one ≡ count_by test (range_with_len 0 (k + 1))
count_next test old k one e h =
    ap₂ (λ x y. x + y) (h ∙ total_below-range k (λ j. cond (test j) 1 0)) e
    ∙ sym (total_below-range (k + 1) (λ j. cond (test j) 1 0) ∙ ap (λ n. total_below n (λ j. cond (test j) 1 0)) (add-one k))
