-- The heads of the jobs, from the first of a forward order to the last.
use Rattle.std.proofs.Common.{◌≡◌, ◌≢◌, ℕ, ◌+◌, ◌*◌, ◌<◌, ◌≤◌, inl, inr, max, List, [], ◌∷◌, ◌++◌, length, get_or, set, take, filter, All, Contains, IsPermutation, refl, sym, ap, subst, ◌∙◌, arith}
use Rattle.std.specs.Prelude.{◌==◌}
use Rattle.std.proofs.lemmas.Bool.{cases_lt, eqb-true, eq-eqb}
use Rattle.std.proofs.lemmas.List.{get_or_past, get_or-set_same, take_more, length-set}
use Rattle.std.proofs.lemmas.List.Elements.{All-push, All-set, All-contains, All-contains_itself, All-filter, All-weaker, Contains-get_or, filter_passes, Contains-append_left, Contains-push}
use Rattle.std.proofs.lemmas.List.Sorted.{All-permutation, Contains-permutation}
use Rattle.msp_class.specs.declared.sizes.TheConstants.{GREATEST}
use Rattle.msp_class.proofs.Sums.{Contains-filter}
use Rattle.msp_instance.specs.declared.Arc.{Arc}
use Rattle.msp_instance.specs.declared.Instance.{Instance}
use Rattle.msp_instance.specs.Instance.{job_at}
use Rattle.msp_instance.specs.Conditions.{IsSequence, GoesForward}
use Rattle.msp_pieces.specs.BackToBack.{time_at}
use Rattle.msp_pieces.proofs.lists.ForwardOrders.{at_inside, each_at, set_elsewhere, comes_from}
use Rattle.msp_route.specs.Heads.{IsRaised, AreHeads}
use Rattle.msp_route.proofs.OneInstances.{IsOneInstance, is_short, is_early}

-- ---- the arcs of one job
pub IsRaised-none : (i : Instance) (heads : ℕ → ℕ) (job head : ℕ) → head ≡ (job_at i job).release → IsRaised i [] heads job head
IsRaised-none i heads job head e = record { release = omega (arith, e); above = λ k d l. absurd (omega (arith, l)); reached = inl e }

module _ (i : Instance) (arcs : List Arc) (heads : ℕ → ℕ) (job : ℕ) (k : ℕ) (a : Arc) (inside : k < length arcs) (at : a ≡ get_or arcs k a) where
  same : take (k + 1) arcs ≡ take k arcs ++ a ∷ []
  same = take_more arcs k a inside ∙ ap (λ x. take k arcs ++ x ∷ []) (sym at)

  pub IsRaised-take : (old end now : ℕ) → a.after ≡ job
      → end ≡ heads a.before + time_at i a.before → now ≡ max old end → IsRaised i (take k arcs) heads job old → IsRaised i (take (k + 1) arcs) heads job now
  IsRaised-take old end now here is e h = subst (λ l. IsRaised i l heads job now) (sym same) (record {
    release = omega (arith, h.release, e);
    above = All-push (λ b. b.after ≡ job → heads b.before + time_at i b.before ≤ now) (take k arcs) a
        (All-weaker (λ b. b.after ≡ job → heads b.before + time_at i b.before ≤ old)
        (λ b. b.after ≡ job → heads b.before + time_at i b.before ≤ now) (λ b f g. let less = f g in omega (arith, e, less)) (take k arcs) h.above)
        (λ _. omega (arith, e, is));
    reached = elim (cases_lt old end) [
      | inl more ↦ inr (a, Contains-push (take k arcs) a, here, omega (arith, e, is, more))
      | inr less ↦ elim h.reached [ inl z ↦ inl (omega (arith, e, z, less)) | inr (b, c, f, r) ↦ inr (b, Contains-append_left (take k arcs) (a ∷ []) b c, f, omega (arith, e, r, less)) ]
    ];
  })

-- the arcs that enter the job are all that count
pub IsRaised-whole : (i : Instance) (sorted : List Arc) → IsPermutation i.arcs sorted
    → (heads : ℕ → ℕ) (job head : ℕ) → IsRaised i (filter (λ a. a.after == job) sorted) heads job head → IsRaised i i.arcs heads job head
IsRaised-whole i sorted same heads job head h = record {
  release = h.release;
  above = λ k d l e. All-contains (λ a. a.after ≡ job → heads a.before + time_at i a.before ≤ head) (filter (λ a. a.after == job) sorted) (get_or i.arcs k d) h.above
      (Contains-filter (λ a. a.after == job) sorted (get_or i.arcs k d) (Contains-permutation i.arcs sorted (get_or i.arcs k d) same (Contains-get_or i.arcs k d l)) (eq-eqb _ _ e)) e;
  reached = elim h.reached [
    | inl z ↦ inl z
    | inr (a, c, e, r) ↦ inr (
      a,
      All-contains (Contains i.arcs) (filter (λ a. a.after == job) sorted) a
          (All-filter (λ a. a.after == job) (Contains i.arcs) sorted (All-permutation (Contains i.arcs) i.arcs sorted same (All-contains_itself i.arcs))) c,
      e,
      r,
    )
  ];
}

-- they begin at jobs of the instance
pub entering_ends : (i : Instance) (sorted : List Arc) → IsPermutation i.arcs sorted → All (λ a. (a.before < length i.jobs) × (a.after < length i.jobs)) i.arcs
    → (job : ℕ) (entering : List Arc) → entering ≡ filter (λ a. a.after == job) sorted
    → All (λ a. (a.after ≡ job) × (a.before < length i.jobs)) entering
entering_ends i sorted same ends job entering e = subst (All (λ a. (a.after ≡ job) × (a.before < length i.jobs))) (sym e) (λ k d l. (
  eqb-true _ _ (filter_passes (λ a. a.after == job) sorted k d l),
  (All-filter (λ a. a.after == job) (λ a. (a.before < length i.jobs) × (a.after < length i.jobs))
      sorted (All-permutation (λ a. (a.before < length i.jobs) × (a.after < length i.jobs)) i.arcs sorted same ends) k d l).0,
))

-- it reads the heads of the jobs alone from which arcs lead to it
pub IsRaised-same : (i : Instance) (arcs : List Arc) (old new : ℕ → ℕ) (job head : ℕ)
    → All (λ a. a.after ≡ job → new a.before ≡ old a.before) arcs → IsRaised i arcs old job head → IsRaised i arcs new job head
IsRaised-same i arcs old new job head agree h = record {
  release = h.release;
  above = λ k d l e. omega (arith, agree k d l e, h.above k d l e);
  reached = elim h.reached [ inl z ↦ inl z | inr (a, c, e, r) ↦ inr (a, c, e, omega (arith, r, All-contains (λ a. a.after ≡ job → new a.before ≡ old a.before) arcs a agree c e)) ];
}

-- ---- from the first place to the last
pub record IsHeaded (i : Instance) (order : List ℕ) (place : ℕ) (heads : List ℕ) : Type 0 where
  pub each : length heads ≡ length i.jobs
  pub inside : place ≤ length order
  pub done : (k : ℕ) → k < place → IsRaised i i.arcs (λ j. get_or heads j 0) (get_or order k 0) (get_or heads (get_or order k 0) 0)
  pub small : All (λ h. h ≤ GREATEST * (2 + place)) heads

pub IsHeaded-start : (i : Instance) (order heads : List ℕ) → length heads ≡ length i.jobs → All (λ h. h ≡ 0) heads → IsHeaded i order 0 heads
IsHeaded-start i order heads each none = record { each = each; inside = omega arith; done = λ k l. absurd (omega (arith, l)); small = λ k d l. omega (arith, none k d l) }

pub AreHeads-end : (i : Instance) → IsOneInstance i → (order heads : List ℕ) (place : ℕ) → length order ≤ place
    → All (λ a. (a.before < length i.jobs) × (a.after < length i.jobs)) i.arcs → IsSequence i order → IsHeaded i order place heads → AreHeads i heads
AreHeads-end i one order heads place all ends s h = record {
  each = h.each;
  release = λ j l. (at j l).release;
  arcs = λ k d l. (at (get_or i.arcs k d).after (ends k d l).1).above k d l refl;
  sound = λ j l. elim (at j l).reached [ inl e ↦ inl (omega (arith, e)) | inr (a, c, e, r) ↦ inr (a, c, e, omega (arith, r)) ];
  small = λ k d l. omega (arith, h.small k d l, h.inside, s.whole, one.few);
}
  where
    at : (j : ℕ) → j < length i.jobs → IsRaised i i.arcs (λ j. get_or heads j 0) j (get_or heads j 0)
    at = each_at i order s (λ x. IsRaised i i.arcs (λ j. get_or heads j 0) x (get_or heads x 0)) (λ k l. h.done k (omega (arith, l, all)))

module _ (i : Instance) (one : IsOneInstance i) (order : List ℕ) (s : IsSequence i order)
    (forward : All (GoesForward order) i.arcs) (heads : List ℕ) (place job value : ℕ) (some : place < length order) (at : job ≡ get_or order place 0)
    (h : IsHeaded i order place heads) (raised : IsRaised i i.arcs (λ k. get_or heads k 0) job value) where
  wide : job < length i.jobs
  wide = subst (λ x. x < length i.jobs) (sym at) (at_inside i order s place some)

  abbrev new : List ℕ
  new = set heads job value

  elsewhere : (k : ℕ) → k < length order → k ≢ place → get_or new (get_or order k 0) 0 ≡ get_or heads (get_or order k 0) 0
  elsewhere k l other = subst (λ x. get_or (set heads x value) (get_or order k 0) 0 ≡ get_or heads (get_or order k 0) 0) (sym at) (set_elsewhere i order s heads place k value some l other)

  -- no arc leads from the job to one of those up to its place
  agree : (k : ℕ) → k ≤ place → All (λ a. a.after ≡ get_or order k 0 → get_or new a.before 0 ≡ get_or heads a.before 0) i.arcs
  agree k up n d l e =
      let (p, less, before) = comes_from i order s forward k (omega (arith, up, some)) n d l e in
      subst (λ x. get_or new x 0 ≡ get_or heads x 0) before (elsewhere p (omega (arith, less, up, some)) (λ is. omega (arith, is, less, up)))

  here : get_or new job 0 ≡ value
  here = get_or-set_same heads job value 0 (omega (arith, wide, h.each))

  pub value_small : value ≤ GREATEST * (3 + place)
  value_small = elim raised.reached [
    | inl e ↦ omega (arith, e, is_early i one job wide)
    | inr r ↦ let (a, c, e, is) = r in omega (arith, is, get_small a.before, short a c)
  ]
    where
      get_small : (j : ℕ) → get_or heads j 0 ≤ GREATEST * (2 + place)
      get_small j = elim (cases_lt j (length heads)) [ inl l ↦ h.small j 0 l | inr l ↦ omega (arith, get_or_past heads j 0 (omega (arith, l))) ]

      short : (a : Arc) → Contains i.arcs a → time_at i a.before ≤ GREATEST
      short a c = is_short i one a.before (All-contains (λ a. (a.before < length i.jobs) × (a.after < length i.jobs)) i.arcs a one.inner.conditions.ends c).0

  first : IsRaised i i.arcs (λ k. get_or new k 0) job (get_or new job 0)
  first = subst (IsRaised i i.arcs (λ k. get_or new k 0) job) (sym here) (IsRaised-same i i.arcs (λ k. get_or heads k 0) (λ k. get_or new k 0)
      job value (subst (λ x. All (λ a. a.after ≡ x → get_or new a.before 0 ≡ get_or heads a.before 0) i.arcs) (sym at) (agree place (omega arith))) raised)

  pub IsHeaded-next : IsHeaded i order (place + 1) new
  IsHeaded-next = record { each = length-set heads job value ∙ h.each; inside = omega (arith, some); done = done; small = small }
    where
      done : (k : ℕ) → k < place + 1 → IsRaised i i.arcs (λ j. get_or new j 0) (get_or order k 0) (get_or new (get_or order k 0) 0)
      done k l = elim (cases_lt k place) [
        | inl before ↦
            subst (IsRaised i i.arcs (λ j. get_or new j 0) (get_or order k 0)) (sym (elsewhere k (omega (arith, before, some)) (λ is. omega (arith, is, before))))
            (IsRaised-same i i.arcs (λ j. get_or heads j 0) (λ j. get_or new j 0) (get_or order k 0) (get_or heads (get_or order k 0) 0) (agree k (omega (arith, before))) (h.done k before))
        | inr now ↦
            let is : k ≡ place = omega (arith, l, now) in
            subst (λ x. IsRaised i i.arcs (λ j. get_or new j 0) x (get_or new x 0)) (at ∙ ap (λ n. get_or order n 0) (sym is)) first
      ]

      small : All (λ h. h ≤ GREATEST * (2 + (place + 1))) new
      small = All-set (λ h. h ≤ GREATEST * (2 + (place + 1))) heads job value (omega (arith, value_small)) (λ k d l. omega (arith, h.small k d l))

-- at the numbers as the code passes them
pub raised_next : (i : Instance) → IsOneInstance i → (order : List ℕ) → IsSequence i order → All (GoesForward order) i.arcs → (heads : List ℕ) (place job value : ℕ)
    → place < length order → job ≡ get_or order place 0 → (sorted : List Arc) → IsPermutation i.arcs sorted → (entering : List Arc)
    → entering ≡ filter (λ a. a.after == job) sorted → IsRaised i entering (λ k. get_or heads k 0) job value → IsHeaded i order place heads → IsHeaded i order (place + 1) (set heads job value)
raised_next i one order s forward heads place job value some at sorted same entering e raised h =
    IsHeaded-next i one order s forward heads place job value some at h
    (IsRaised-whole i sorted same (λ k. get_or heads k 0) job value (subst (λ l. IsRaised i l (λ k. get_or heads k 0) job value) e raised))

pub job_inside : (i : Instance) (order : List ℕ) → IsSequence i order → (p job : ℕ) → p < length order → job ≡ get_or order p 0 → job < length i.jobs
job_inside i order s p job l e = subst (λ x. x < length i.jobs) (sym e) (at_inside i order s p l)
