-- The threshold laws of two stages of work: lower bounds on the end that do not ask in which order a machine takes the items.
use Rattle.std.proofs.Common.{◌≡◌, ℕ, zero, suc, ◌+◌, ◌*◌, ◌-◌, ◌≤◌, min, Bool, true, false, cond, leb, List, [], ◌∷◌, get_or, All, Contains, sum_by, refl, ap, arith, le_trans, mul-le-mul_left, filter}
use Rattle.std.proofs.lemmas.Bool.{leb-true, le-leb}
use Rattle.std.proofs.lemmas.List.Elements.{All-head, All-tail, All-contains, Contains-get_or}
use Rattle.std.proofs.lemmas.Bool.Decides.{nat_tests}
use Rattle.msp_class.proofs.Sums.{sum_by-cons, sum_by-mono, sum_by-same, Contains-filter, Contains-from_filter}
use Rattle.msp_shops.proofs.Cut.{HaveTwoStages, around_cut, cut_law}
use Rattle.msp_pieces.proofs.lists.Intervals.{greatest_by, greatest_by-contains, greatest_by-reached}

-- ---- general: the first one by f of those that pass a test, and a sum with one term that is greater by more
module _ {X : Type 0} (p : X → Bool) (f : X → ℕ) where
  abbrev IsEarliest : List X → X → Type 0
  IsEarliest xs q = Contains xs q × (p q ≡ true) × All (λ y. p y ≡ true → f q ≤ f y) xs

  earliest_of : (xs : List X) (x : X) → Contains xs x → p x ≡ true → (q : X) × IsEarliest xs q
  earliest_of xs x c t =
      let ys : List X = filter p xs in
      let g : X → ℕ = λ y. greatest_by f ys - f y in
      let (q, d, e) = greatest_by-reached g ys (omega (arith, (Contains-filter p xs x c t).1)) in
      let (inside, passes) = Contains-from_filter p xs q d in
      let least : All (λ y. p y ≡ true → f q ≤ f y) xs = λ k z l h.
      let there = Contains-filter p xs (get_or xs k z) (Contains-get_or xs k z l) h in
      omega (arith, e, greatest_by-contains g ys _ there, greatest_by-contains f ys _ there, greatest_by-contains f ys q d) in
      (q, (inside, passes, least))

sum_by-more : {X : Type 0} (f g : X → ℕ) (more : ℕ) (xs : List X) (q : X) → All (λ x. f x ≤ g x) xs → Contains xs q → more + f q ≤ g q → more + sum_by f xs ≤ sum_by g xs
sum_by-more f g more [] q h c l = absurd (omega (arith, c.1))
sum_by-more f g more (x ∷ xs) q h (zero, m, e) l =
    omega (arith, sum_by-cons f x xs, sum_by-cons g x xs, ap f e, ap g e, sum_by-mono f g xs (All-tail (λ y. f y ≤ g y) x xs h), l)
sum_by-more f g more (x ∷ xs) q h (suc k, m, e) l =
    omega (arith, sum_by-cons f x xs, sum_by-cons g x xs, All-head (λ y. f y ≤ g y) x xs h, sum_by-more f g more xs q (All-tail (λ y. f y ≤ g y) x xs h) (k, omega arith, e) l)

-- ---- the law from the first machine
-- what an item adds for certain, beside one whose first time is at least the threshold
abbrev pub added : {X : Type 0} → (X → ℕ) → (X → ℕ) → ℕ → X → ℕ
added first second least x = cond (leb least (first x)) (second x) (min (first x) (second x))

module _ {X : Type 0} (first second ready : X → ℕ) (unit end : ℕ) (items : List X) (h : HaveTwoStages first second ready unit end items) (least : ℕ) where
  abbrev reaches : X → Bool
  reaches x = leb least (first x)

  -- an item adds as much around any cut before which no first time that reaches the threshold is over
  adds : (a b e z : ℕ) (t : Bool) → (t ≡ true → z ≤ e) → cond t b (min a b) ≤ cond (leb e z) a 0 + cond (leb z e) b 0
  adds a b e z true late = let l = late refl in grind (arith, nat_tests)
  adds a b e z false late = grind (arith, nat_tests)

  at_cut : (a b z : ℕ) → least ≤ a → (o : Bool) → least + cond o b (min a b) ≤ cond (leb z z) a 0 + cond (leb z z) b 0
  at_cut a b z l true = grind (arith, nat_tests)
  at_cut a b z l false = grind (arith, nat_tests)

  pub threshold : (x : X) → Contains items x → least ≤ first x → unit * (least + sum_by (added first second least) items) ≤ end
  threshold x c l =
      let (q, (at, passes, before)) = earliest_of reaches ready items x c (le-leb least (first x) l) in
      le_trans (mul-le-mul_left unit (sum_by-more (added first second least) (around_cut first second ready (ready q)) least items q
      (λ k d m. adds (first (get_or items k d)) (second (get_or items k d)) (ready (get_or items k d)) (ready q) _ (before k d m))
      at (at_cut (first q) (second q) (ready q) (leb-true least (first q) passes) _)))
      (cut_law first second ready unit end items h (ready q) (All-contains (λ y. ready y ≤ end) items q h.inside at))

-- ---- the law from the second machine: the same read from the end
same_test : (a b c d : ℕ) → a + d ≡ b + c → leb a b ≡ leb c d
same_test a b c d e = grind (arith, nat_tests)

mirrored : {X : Type 0} (first second ready : X → ℕ) (unit end : ℕ) (items : List X) → HaveTwoStages first second ready unit end items
    → HaveTwoStages second first (λ x. end - ready x) unit end items
mirrored first second ready unit end items h = record {
  inside = λ k d l. omega arith;
  over = λ z l. omega (
    arith,
    h.to_come (end - z) (omega arith),
    ap (λ n. unit * n) (sum_by-same (λ x. cond (leb (end - ready x) z) (second x) 0) (λ x. cond (leb (end - z) (ready x)) (second x) 0) items
        (λ k d m. ap (λ b. cond b (second (get_or items k d)) 0) (same_test (end - ready (get_or items k d)) z (end - z) (ready (get_or items k d)) (omega (arith, l, h.inside k d m))))),
  );
  to_come = λ z l. omega (
    arith,
    h.over (end - z) (omega arith),
    ap (λ n. unit * n) (sum_by-same (λ x. cond (leb z (end - ready x)) (first x) 0) (λ x. cond (leb (ready x) (end - z)) (first x) 0) items
        (λ k d m. ap (λ b. cond b (first (get_or items k d)) 0) (same_test z (end - ready (get_or items k d)) (ready (get_or items k d)) (end - z) (omega (arith, l, h.inside k d m))))),
  );
}

pub threshold_from_end : {X : Type 0} (first second ready : X → ℕ) (unit end : ℕ) (items : List X) → HaveTwoStages first second ready unit end items
    → (least : ℕ) (x : X) → Contains items x → least ≤ second x → unit * (least + sum_by (added second first least) items) ≤ end
threshold_from_end first second ready unit end items h least x c l =
    threshold second first (λ x. end - ready x) unit end items (mirrored first second ready unit end items h) least x c l
