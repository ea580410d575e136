-- The levels of jobs, by heights that fall along arcs: arc by arc, from the lowest job.
use Rattle.std.proofs.Common.{◌≡◌, ◌≢◌, ℕ, zero, suc, ◌+◌, ◌<◌, ◌≤◌, ◌⊎◌, inl, inr, max, List, length, get_or, set, All, AllPairs, IsPermutation, refl, sym, ap, subst, ◌∙◌, arith}
use Rattle.std.specs.List.Sorted.{IsNonDecreasingBy}
use Rattle.std.proofs.lemmas.Bool.{cases_lt}
use Rattle.std.proofs.lemmas.List.{get_or_default, get_or_past, get_or-set_same, get_or-set_other}
use Rattle.std.proofs.lemmas.List.Elements.{All-contains}
use Rattle.std.proofs.lemmas.List.Sorted.{All-permutation, Contains-permutation, IsPermutation-sym}
use Rattle.std.proofs.lemmas.Option.{get_or_from_slice_get, slice_get_within}
use Rattle.msp_instance.specs.declared.Arc.{Arc}
use Rattle.msp_instance.specs.declared.Instance.{Instance}
use Rattle.msp_instance.specs.Conditions.{IsSequence, GoesForward}
use Rattle.msp_instance.specs.Paths.{HasStep}
use Rattle.msp_pieces.specs.Levels.{LeadsOut, IsLevel}
use Rattle.msp_pieces.proofs.lists.ForwardOrders.{each_at}
use Rattle.msp_cert.specs.Certificates.{of_job}
use Rattle.msp_cert.specs.Heights.{AreHeights, AreBalanced}
use Rattle.msp_cert.specs.Search.{AreAllLevels}
use Rattle.msp_class.proofs.Cases.{same_or_not}

-- ---- the heights of a forward order
pub height_next : (order heights : List ℕ) (k value : ℕ) → AllPairs (λ x y. x ≢ y) order → k < length order → get_or order k 0 < length heights → value + k + 1 ≡ length order
    → ((p : ℕ) → p < k → get_or heights (get_or order p 0) 0 + p + 1 ≡ length order) → (p : ℕ) → p < k + 1 → get_or (set heights (get_or order k 0) value) (get_or order p 0) 0 + p + 1 ≡ length order
height_next order heights k value apart l wide is before p b = elim (cases_lt p k) [
  | inl low ↦ omega (arith, get_or-set_other heights (get_or order k 0) (get_or order p 0) value 0 (apart p k 0 low l), before p low)
  | inr high ↦ let e : p ≡ k = omega (arith, b, high) in
      subst (λ q. get_or (set heights (get_or order k 0) value) (get_or order q 0) 0 + q + 1 ≡ length order) (sym e) (omega (arith, get_or-set_same heights (get_or order k 0) value 0 wide, is))
]

pub heights_from : (i : Instance) (order heights : List ℕ) → IsSequence i order → All (GoesForward order) i.arcs → length heights ≡ length i.jobs
    → ((k : ℕ) → k < length order → of_job heights (get_or order k 0) + k + 1 ≡ length order) → AreHeights i heights
heights_from i order heights s forward each is = record {
  each = each;
  small = λ j d l. subst (λ x. x < length i.jobs) (get_or_default heights j 0 d l)
      (each_at i order s (λ x. of_job heights x < length i.jobs) (λ k b. omega (arith, is k b, s.whole)) j (omega (arith, l, each)));
  falls = λ n d l. let (p, q, less, x, y) = forward n d l in
      falls (get_or i.arcs n d) p q less (get_or_from_slice_get order p _ 0 x) (get_or_from_slice_get order q _ 0 y) (slice_get_within order p _ x) (slice_get_within order q _ y);
}
  where
    falls : (a : Arc) (p q : ℕ) → p < q → get_or order p 0 ≡ a.before → get_or order q 0 ≡ a.after → p < length order → q < length order → of_job heights a.after < of_job heights a.before
    falls a p q less x y b c = omega (arith, less, is p b, is q c, ap (of_job heights) x, ap (of_job heights) y)

pub small_at : (m : ℕ) (xs : List ℕ) → 0 < m → All (λ x. x < m) xs → (j : ℕ) → of_job xs j < m
small_at m xs some h j = elim (cases_lt j (length xs)) [ inl l ↦ h j 0 l | inr past ↦ omega (arith, get_or_past xs j 0 past, some) ]

-- ---- balanced levels are those of the longest paths
module _ (arcs : List Arc) (level : ℕ → ℕ) (h : AreBalanced arcs level) where
  path : (n j : ℕ) → level j ≡ n → LeadsOut arcs n j
  path zero j e = tt
  path (suc n) j e = elim (h.reached j) [
    | inl z ↦ absurd (omega (arith, z, e))
    | inr (k, a, l, at, (before, is)) ↦ (a.after, subst (λ x. HasStep arcs x a.after) before (k, l, at), path n a.after (omega (arith, is, e)))
  ]

  longest : (n j : ℕ) → LeadsOut arcs n j → n ≤ level j
  longest zero j p = omega arith
  longest (suc n) j (k, c, p) =
      let less : level k < level j = All-contains (λ a. level a.after < level a.before) arcs (record { before = j; after = k }) h.over c in
      omega (arith, less, longest n k p)

  pub balanced_level : (j : ℕ) → IsLevel arcs j (level j)
  balanced_level j = record { path = path (level j) j refl; longest = λ n p. longest n j p }

-- the same of the arcs in any order
pub balanced_permutation : (arcs sorted : List Arc) (level : ℕ → ℕ) → IsPermutation arcs sorted → AreBalanced sorted level → AreBalanced arcs level
balanced_permutation arcs sorted level p h = record {
  over = All-permutation (λ a. level a.after < level a.before) sorted arcs back h.over;
  reached = λ j. elim (h.reached j) [
    | inl z ↦ inl z
    | inr (k, a, l, at, is) ↦ let (q, m, e) = Contains-permutation sorted arcs a back (k, l, at) in inr (q, a, m, e, is)
  ];
}
  where
    back : IsPermutation sorted arcs
    back = IsPermutation-sym arcs sorted p

pub all_levels : (i : Instance) (sorted : List Arc) (level : List ℕ) → length level ≡ length i.jobs → IsPermutation i.arcs sorted → AreBalanced sorted (of_job level) → AreAllLevels i level
all_levels i sorted level each p h = record { each = each; levels = λ j _. balanced_level i.arcs (of_job level) (balanced_permutation i.arcs sorted (of_job level) p h) j }

-- ---- arc by arc, from those of the lowest job
abbrev pub no_arc : Arc
no_arc = record { before = 0; after = 0 }

pub record AreRaised (heights : ℕ → ℕ) (arcs : List Arc) (k : ℕ) (level : List ℕ) : Type 0 where
  pub low : (j : ℕ) → of_job level j ≤ heights j
  pub over : (p : ℕ) → p < k → of_job level (get_or arcs p no_arc).after < of_job level (get_or arcs p no_arc).before
  pub reached : (j : ℕ) → (of_job level j ≡ 0) ⊎ ((p : ℕ) × (p < k) × ((get_or arcs p no_arc).before ≡ j) × (of_job level j ≡ of_job level (get_or arcs p no_arc).after + 1))

pub none_raised : (heights : ℕ → ℕ) (arcs : List Arc) (level : List ℕ) → ((j : ℕ) → of_job level j ≡ 0) → AreRaised heights arcs 0 level
none_raised heights arcs level none = record { low = λ j. omega (arith, none j); over = λ p l. absurd (omega (arith, l)); reached = λ j. inl (none j) }

pub all_raised : (heights : ℕ → ℕ) (arcs : List Arc) (k : ℕ) (level : List ℕ) → length arcs ≤ k → k ≤ length arcs → AreRaised heights arcs k level → AreBalanced arcs (of_job level)
all_raised heights arcs k level many few h = record {
  over = λ p d l. subst (λ (a : Arc). of_job level a.after < of_job level a.before) (get_or_default arcs p no_arc d l) (h.over p (omega (arith, l, many)));
  reached = λ j. elim (h.reached j) [
    | inl z ↦ inl z
    | inr (p, l, before, is) ↦ let b : p < length arcs = omega (arith, l, few) in inr (p, get_or arcs p no_arc, b, get_or_default arcs p (get_or arcs p no_arc) no_arc b, (before, is))
  ];
}

module _ (heights : ℕ → ℕ) (arcs : List Arc) (k : ℕ) (level : List ℕ)
    (value : ℕ) (l : k < length arcs) (falls : All (λ a. heights a.after < heights a.before) arcs) (sorted : IsNonDecreasingBy (λ a. heights a.before) arcs)
    (wide : (get_or arcs k no_arc).before < length level)
    (is : value ≡ max (of_job level (get_or arcs k no_arc).before) (of_job level (get_or arcs k no_arc).after + 1)) (h : AreRaised heights arcs k level) where
  abbrev from : ℕ
  from = (get_or arcs k no_arc).before

  abbrev to : ℕ
  to = (get_or arcs k no_arc).after

  abbrev new : List ℕ
  new = set level from value

  here : of_job new from ≡ value
  here = get_or-set_same level from value 0 wide

  other : (j : ℕ) → j ≢ from → of_job new j ≡ of_job level j
  other j ne = get_or-set_other level from j value 0 ne

  -- no arc so far leads to the job that is raised
  beside : (p : ℕ) → p ≤ k → (get_or arcs p no_arc).after ≢ from
  beside p b e =
      let lower : heights (get_or arcs p no_arc).after < heights (get_or arcs p no_arc).before = falls p no_arc (omega (arith, b, l)) in
      let near : heights (get_or arcs p no_arc).before ≤ heights from = sorted p k no_arc b l in
      omega (arith, lower, near, ap heights e)

  same_end : (p : ℕ) → p ≤ k → of_job new (get_or arcs p no_arc).after ≡ of_job level (get_or arcs p no_arc).after
  same_end p b = other _ (beside p b)

  grows : (j : ℕ) → of_job level j ≤ of_job new j
  grows j = elim (same_or_not j from) [ inl e ↦ subst (λ x. of_job level x ≤ of_job new x) (sym e) (omega (arith, here, is)) | inr ne ↦ omega (arith, other j ne) ]

  low : (j : ℕ) → of_job new j ≤ heights j
  low j = elim (same_or_not j from) [
    | inl e ↦ subst (λ x. of_job new x ≤ heights x) (sym e) (let lower : heights to < heights from = falls k no_arc l in omega (arith, here, is, h.low from, h.low to, lower))
    | inr ne ↦ omega (arith, other j ne, h.low j)
  ]

  over : (p : ℕ) → p < k + 1 → of_job new (get_or arcs p no_arc).after < of_job new (get_or arcs p no_arc).before
  over p b = elim (cases_lt p k) [
    | inl less ↦ omega (arith, same_end p (omega (arith, less)), h.over p less, grows (get_or arcs p no_arc).before)
    | inr more ↦ let e : k ≡ p = omega (arith, b, more) in
        subst (λ q. of_job new (get_or arcs q no_arc).after < of_job new (get_or arcs q no_arc).before) e (omega (arith, same_end k (omega arith), here, is))
  ]

  abbrev Reached : List ℕ → ℕ → ℕ → Type 0
  Reached levels n j = (of_job levels j ≡ 0) ⊎ ((p : ℕ) × (p < n) × ((get_or arcs p no_arc).before ≡ j) × (of_job levels j ≡ of_job levels (get_or arcs p no_arc).after + 1))

  -- a job whose level stays keeps the arc that it rests on
  kept : (j : ℕ) → of_job new j ≡ of_job level j → Reached new (k + 1) j
  kept j e = elim (h.reached j) [ inl z ↦ inl (e ∙ z) | inr (p, b, before, at) ↦ inr (p, omega (arith, b), before, omega (arith, e, at, same_end p (omega (arith, b)))) ]

  reached_here : Reached new (k + 1) from
  reached_here = elim (cases_lt (of_job level from) (of_job level to + 1)) [
    | inl less ↦ inr (k, omega arith, refl, omega (arith, here, is, less, same_end k (omega arith)))
    | inr more ↦ kept from (omega (arith, here, is, more))
  ]

  pub raise_next : (next : List ℕ) → next ≡ new → AreRaised heights arcs (k + 1) next
  raise_next next e = subst (AreRaised heights arcs (k + 1)) (sym e) (record {
    low = low;
    over = over;
    reached = λ j. elim (same_or_not j from) [ inl e ↦ subst (Reached new (k + 1)) (sym e) reached_here | inr ne ↦ kept j (other j ne) ];
  })

-- the arcs as the code passes them
pub arcs_inside : (i : Instance) (sorted : List Arc) (n : ℕ) → n ≡ length i.jobs
    → All (λ a. (a.before < length i.jobs) × (a.after < length i.jobs)) i.arcs → IsPermutation i.arcs sorted → All (λ a. a.before < n) sorted
arcs_inside i sorted n e ends p = All-permutation (λ a. a.before < n) i.arcs sorted p (λ k d l. omega (arith, e, (ends k d l).0))

pub arcs_fall : (i : Instance) (sorted : List Arc) (heights : List ℕ) → AreHeights i heights → IsPermutation i.arcs sorted → All (λ a. of_job heights a.after < of_job heights a.before) sorted
arcs_fall i sorted heights h p = All-permutation (λ a. of_job heights a.after < of_job heights a.before) i.arcs sorted p h.falls
