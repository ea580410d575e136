-- Lemmas on orders of all jobs, and on cycles: there is the one or the other.
use Rattle.std.proofs.Common.{◌≡◌, ◌≢◌, ℕ, zero, suc, ◌+◌, ◌<◌, ◌≤◌, true, false, ◌==◌, List, [], ◌∷◌, length, get_or, take, count_by, All, AllPairs, Contains, Some, ◌⊎◌}
use Rattle.std.proofs.Common.{inl, inr, sym, ap, ◌∙◌, subst, arith}
use Rattle.std.specs.Prelude.{slice_get}
use Rattle.std.specs.List.{list_any}
use Rattle.std.specs.List.Sorted.{IsPermutation}
use Rattle.std.proofs.lemmas.Bool.{cases_Bool, cases_lt, eqb-true, eqb-false, false≢true}
use Rattle.std.proofs.lemmas.List.{get_or_default, get_or-take, length-take}
use Rattle.std.proofs.lemmas.List.Elements.{All-nil, All-cons, All-contains, Contains-get_or}
use Rattle.std.proofs.lemmas.List.Sorted.{Contains-permutation, All-permutation, IsPermutation-sym}
use Rattle.std.proofs.lemmas.List.Kept.{AllPairs-cons}
use Rattle.std.proofs.lemmas.Option.{slice_get-get_or, slice_get_within, get_or_from_slice_get}
use Rattle.msp_class.specs.Sums.{total_below}
use Rattle.msp_class.proofs.Sums.{total_below-constant, counts_below, missing, total_below-within, OnceBelow-distinct}
use Rattle.msp_class.proofs.Sums.{total_below-mono, total_below-tight, count_by-distinct, OnceBelow, OnceBelow-from_distinct, OnceBelow-contains}
use Rattle.msp_instance.specs.declared.Arc.{Arc}
use Rattle.msp_instance.specs.declared.Instance.{Instance}
use Rattle.msp_instance.specs.Conditions.{IsSequence, GoesForward, IsAcyclic}
use Rattle.msp_instance.specs.Paths.{HasStep, HasPath, one, more, IsLeastOnCycle}
use Rattle.msp_instance.specs.Listing.{IsLongestOrder}
use Rattle.msp_instance.proofs.ListingLemmas.{list_any-from_Contains, Contains-from_list_any, count-from_contains, length-once, one_place}
use Rattle.msp_instance.proofs.SearchLemmas.{HasPath-permutation}

-- ---- an order of all jobs from the longest one
pub IsSequence-from_longest : (i : Instance) (arcs : List Arc) (order : List ℕ) → IsLongestOrder arcs (length i.jobs) order → length order ≡ length i.jobs → IsSequence i order
IsSequence-from_longest i arcs order h whole =
    let once = OnceBelow-from_distinct (length i.jobs) order whole h.inside h.apart in
    record { whole = whole; each = OnceBelow-contains once }

pub GoesForward-from_longest : (i : Instance) (arcs : List Arc) (order : List ℕ) → IsPermutation i.arcs arcs → All (λ a. (a.before < length i.jobs) × (a.after < length i.jobs)) i.arcs
    → IsLongestOrder arcs (length i.jobs) order → length order ≡ length i.jobs → All (GoesForward order) i.arcs
GoesForward-from_longest i arcs order p ends h whole k d t = (
  before.0,
  after.0,
  omega (arith, before.1, length-take after.0 order),
  slice_get-get_or order before.0 a.before (omega (arith, before.1, length-take after.0 order))
      ∙ ap Some (sym (get_or-take after.0 order before.0 a.before (omega (arith, before.1, length-take after.0 order))) ∙ before.2),
  slice_get-get_or order after.0 a.after after.1 ∙ ap Some after.2,
)
  where
    a : Arc
    a = get_or i.arcs k d

    after : Contains order a.after
    after = (IsSequence-from_longest i arcs order h whole).each a.after (ends k d t).1

    before : Contains (take after.0 order) a.before
    before = h.early a.before after.0 after.1
        (subst (HasStep arcs a.before) (sym (get_or_default order after.0 0 a.after after.1 ∙ after.2)) (Contains-permutation i.arcs arcs a p (Contains-get_or i.arcs k d t)))

-- ---- a path never leads back where every arc goes forward
-- where the numbers below n stand in a list as often as it is long, it has no others
inside_from_counts : (n : ℕ) (xs : List ℕ) → length xs ≤ total_below n (λ j. count_by (λ x. x == j) xs) → All (λ x. x < n) xs
inside_from_counts n xs h k d t =
    let x = get_or xs k d in
    let more = total_below-within (λ j. count_by (λ y. y == j) xs) n x in
    elim (cases_lt x n) [
      | inl low ↦ low
      | inr past ↦ absurd (omega (arith, h, more past, counts_below (suc x) xs, count-from_contains xs x (Contains-get_or xs k d t)))
    ]

pub count_once : (i : Instance) (order : List ℕ) → IsSequence i order → (j : ℕ) → j < length i.jobs → count_by (λ x. x == j) order ≡ 1
count_once i order h j t =
    sym (total_below-tight (length i.jobs) (λ _. 1) (λ k. count_by (λ x. x == k) order) (λ k u. count-from_contains order k (h.each k u))
    (omega (arith, counts_below (length i.jobs) order, total_below-constant (length i.jobs) 1, h.whole)) j t)

-- an order of all jobs has each of their numbers once, and no other number
pub OnceBelow-from_sequence : (i : Instance) (order : List ℕ) → IsSequence i order → OnceBelow (length i.jobs) order
OnceBelow-from_sequence i order h =
    let n = length i.jobs in
    record {
      within = inside_from_counts n order
          (omega (arith, h.whole, total_below-constant n 1, total_below-mono n (λ _. 1) (λ k. count_by (λ x. x == k) order) (λ k u. count-from_contains order k (h.each k u))));
      once = count_once i order h;
    }

pub same_place : (i : Instance) (order : List ℕ) → IsSequence i order → (j p q : ℕ) → j < length i.jobs → slice_get order p ≡ Some j → slice_get order q ≡ Some j → p ≡ q
same_place i order h j p q t hp hq =
    one_place order p q (OnceBelow-distinct (OnceBelow-from_sequence i order h)) (slice_get_within order p j hp) (slice_get_within order q j hq)
    (get_or_from_slice_get order p j 0 hp ∙ sym (get_or_from_slice_get order q j 0 hq))

pub path_forward : (i : Instance) (order : List ℕ) → IsSequence i order → All (GoesForward order) i.arcs → All (λ a. (a.before < length i.jobs) × (a.after < length i.jobs)) i.arcs
    → {j k : ℕ} → HasPath i.arcs j k → (p q : ℕ) → slice_get order p ≡ Some j → slice_get order q ≡ Some k → p < q
path_forward i order h forward ends (one s) p q hp hq =
    let a = All-contains (GoesForward order) i.arcs _ forward s in
    let e = All-contains (λ a. (a.before < length i.jobs) × (a.after < length i.jobs)) i.arcs _ ends s in
    omega (arith, a.2, same_place i order h _ p a.0 e.0 hp a.3, same_place i order h _ q a.1 e.1 hq a.4)
path_forward i order h forward ends (more s t) p q hp hq =
    let a = All-contains (GoesForward order) i.arcs _ forward s in
    let e = All-contains (λ a. (a.before < length i.jobs) × (a.after < length i.jobs)) i.arcs _ ends s in
    omega (arith, a.2, same_place i order h _ p a.0 e.0 hp a.3, path_forward i order h forward ends t a.1 q a.4 hq)

pub not_acyclic : (i : Instance) (j : ℕ) → All (λ a. (a.before < length i.jobs) × (a.after < length i.jobs)) i.arcs → j < length i.jobs → HasPath i.arcs j j → ¬ IsAcyclic i
not_acyclic i j ends t path a =
    let c = a.1.each j t in
    let at : slice_get a.0 c.0 ≡ Some j = slice_get-get_or a.0 c.0 j c.1 ∙ ap Some c.2 in
    absurd (omega (arith, path_forward i a.0 a.1 a.2 ends path c.0 c.0 at at))

-- ---- a job that is left out of the longest order leads back to a cycle
-- jobs that were walked back through, none twice, from each of which a path leads on from the last
record IsWalk (arcs : List Arc) (n : ℕ) (last : ℕ) (walked : List ℕ) : Type 0 where
  inside : All (λ j. j < n) (last ∷ walked)
  apart : AllPairs (λ j k. j ≢ k) (last ∷ walked)
  paths : All (HasPath arcs last) walked

walk_back : (arcs : List Arc) (n : ℕ) (order : List ℕ) → All (λ a. (a.before < n) × (a.after < n)) arcs → IsLongestOrder arcs n order → (fuel last : ℕ) (walked : List ℕ)
    → n < fuel + length walked + 1 → ¬ Contains order last → IsWalk arcs n last walked → (j : ℕ) × (j < n) × HasPath arcs j j
walk_back arcs n order ends h zero last walked enough out w = absurd (omega (arith, length-once n (last ∷ walked) w.inside (λ k. count_by-distinct (last ∷ walked) k w.apart)))
walk_back arcs n order ends h (suc fuel) last walked enough out w =
    let back = h.left last (w.inside 0 0 (omega arith)) out in
    let j = back.0 in
    let there : (j < n) × (last < n) = All-contains (λ a. (a.before < n) × (a.after < n)) arcs (record { before = j; after = last }) ends back.1 in
    step (λ k gone v. walk_back arcs n order ends h fuel k (last ∷ walked) (omega arith) gone v) back.0 back.1 back.2 there.0 (cases_Bool (j == last)) (cases_Bool (list_any (λ x. x == j) walked))
  where
    step : ((j : ℕ) → ¬ Contains order j → IsWalk arcs n j (last ∷ walked) → (k : ℕ) × (k < n) × HasPath arcs k k) → (j : ℕ) → HasStep arcs j last → ¬ Contains order j
        → j < n → ((j == last) ≡ true) ⊎ ((j == last) ≡ false) → (list_any (λ x. x == j) walked ≡ true) ⊎ (list_any (λ x. x == j) walked ≡ false) → (k : ℕ) × (k < n) × HasPath arcs k k
    step on j s gone t (inl same) b = (j, t, one (subst (HasStep arcs j) (sym (eqb-true j last same)) s))
    step on j s gone t (inr other) (inl met) = (j, t, more s (All-contains (HasPath arcs last) walked j w.paths (Contains-from_list_any walked j met)))
    step on j s gone t (inr other) (inr fresh) =
        on j gone (record {
          inside = All-cons (λ k. k < n) j (last ∷ walked) t w.inside;
          apart = AllPairs-cons (λ k l. k ≢ l) j (last ∷ walked) (All-cons (λ k. j ≢ k) last walked (eqb-false j last other)
              (λ k d u e. false≢true (sym fresh ∙ list_any-from_Contains walked j (subst (Contains walked) (sym e) (Contains-get_or walked k d u))))) w.apart;
          paths = All-cons (HasPath arcs j) last walked (one s) (λ k d u. more s (w.paths k d u));
        })

pub cycle_from_short : (arcs : List Arc) (n : ℕ) (order : List ℕ)
    → All (λ a. (a.before < n) × (a.after < n)) arcs → IsLongestOrder arcs n order → length order < n → (j : ℕ) × (j < n) × HasPath arcs j j
cycle_from_short arcs n order ends h short =
    let first = missing n order short in
    walk_back arcs n order ends h n first.0 [] (omega arith) first.2 (record {
      inside = All-cons (λ j. j < n) first.0 [] first.1 (All-nil (λ j. j < n));
      apart = λ p q d a b. absurd (omega arith);
      paths = All-nil (HasPath arcs first.0);
    })

-- ---- the same, over sorted arcs as the code reads them
abbrev AreEnds : ℕ → List Arc → Type 0
AreEnds n arcs = All (λ a. (a.before < n) × (a.after < n)) arcs

module _ (i : Instance) (read items sorted : List Arc) (n : ℕ) (jobs : n ≡ length i.jobs)
    (read_is : read ≡ i.arcs) (moved : IsPermutation read items) (sorted_is : sorted ≡ items) (ends : AreEnds (length i.jobs) i.arcs) where
  moved_arcs : IsPermutation i.arcs sorted
  moved_arcs = subst (IsPermutation i.arcs) (sym sorted_is) (subst (λ l. IsPermutation l items) read_is moved)

  pub sorted_ends : AreEnds n sorted
  sorted_ends = subst (λ m. AreEnds m sorted) (sym jobs) (All-permutation (λ a. (a.before < length i.jobs) × (a.after < length i.jobs)) i.arcs sorted moved_arcs ends)

  pub sorted_sequence : (order : List ℕ) → IsLongestOrder sorted n order → length order ≡ n → IsSequence i order
  sorted_sequence order h whole = IsSequence-from_longest i sorted order (subst (λ m. IsLongestOrder sorted m order) jobs h) (whole ∙ jobs)

  pub sorted_forward : (order : List ℕ) → IsLongestOrder sorted n order → length order ≡ n → All (GoesForward order) i.arcs
  sorted_forward order h whole = GoesForward-from_longest i sorted order moved_arcs ends (subst (λ m. IsLongestOrder sorted m order) jobs h) (whole ∙ jobs)

  pub sorted_cycle : (order : List ℕ) → IsLongestOrder sorted n order → length order ≢ n → (j : ℕ) × (j < n) × HasPath sorted j j
  sorted_cycle order h differs = cycle_from_short sorted n order sorted_ends h (omega (arith, differs, length-once n order h.inside (λ k. count_by-distinct order k h.apart)))

  pub sorted_fault : (j : ℕ) → IsLeastOnCycle n sorted j → (¬ IsAcyclic i) × IsLeastOnCycle (length i.jobs) i.arcs j
  sorted_fault j h =
      let path = HasPath-permutation sorted i.arcs (IsPermutation-sym i.arcs sorted moved_arcs) h.cycle in
      let inside : j < length i.jobs = omega (arith, h.inside, jobs) in
      (not_acyclic i j ends inside path, record { inside = inside; cycle = path; least = λ k t p. h.least k t (HasPath-permutation i.arcs sorted moved_arcs p) })
