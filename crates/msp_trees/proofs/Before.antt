-- What is before each job of an instance with at most one predecessor for each job.
use Rattle.std.proofs.Common.{◌≡◌, ◌≢◌, ℕ, zero, suc, ◌+◌, ◌<◌, ◌≤◌, ◌⊎◌, inl, inr, Bool, true, false, cond, if◌then◌else◌, List, [], ◌∷◌, length, get_or, All, AllPairs}
use Rattle.std.proofs.Common.{refl, sym, ap, subst, arith}
use Rattle.std.specs.Prelude.{◌==◌}
use Rattle.std.proofs.lemmas.Bool.{eqb-true, eqb-false, eq-eqb, cond_both}
use Rattle.std.proofs.lemmas.List.Sums.{sum_by-cons}
use Rattle.std.proofs.lemmas.List.Elements.{All-contains}
use Rattle.msp_class.proofs.Sums.{cond-yes, sum_by-contains, OnceBelow}
use Rattle.msp_instance.specs.declared.Arc.{Arc}
use Rattle.msp_instance.specs.declared.Instance.{Instance}
use Rattle.msp_instance.specs.Conditions.{IsSequence, GoesForward, entering}
use Rattle.msp_instance.specs.Paths.{HasStep}
use Rattle.msp_instance.proofs.CycleLemmas.{same_place}
use Rattle.msp_pieces.proofs.feasible.Series.{MayPrecede}
use Rattle.msp_trees.specs.Horn.{first_before, before}
use Rattle.msp_trees.specs.Joining.{IsForward}

-- ---- in a list of arcs
-- the start, or an arc leads from it
pub before_cases : (arcs : List Arc) (start j : ℕ) → (first_before arcs start j ≡ start) ⊎ HasStep arcs (first_before arcs start j) j
before_cases [] start j = inl refl
before_cases (a ∷ arcs) start j = cond_both (a.after == j) a.before (first_before arcs start j) (λ x. (x ≡ start) ⊎ HasStep (a ∷ arcs) x j)
    (λ e. inr (0, omega arith, sym (ap (λ k. record { before = a.before; after = k }) (sym (eqb-true a.after j e)))))
    (λ _. elim (before_cases arcs start j) [ inl s ↦ inl s | inr c ↦ inr (suc c.0, omega (arith, c.1), c.2) ])

-- where one arc at most leads to each job, it is the one
pub before_only : (arcs : List Arc) (start j k : ℕ) → entering arcs j ≤ 1 → HasStep arcs k j → first_before arcs start j ≡ k
before_only [] start j k few c = absurd (omega (arith, c.1))
before_only (a ∷ arcs) start j k few c = by (a.after == j) refl (before_only arcs start j k) (sum_by-cons (λ x. cond (x.after == j) 1 0) a arcs)
  where
    arc : Arc
    arc = record { before = k; after = j }

    first : (c : HasStep (a ∷ arcs) k j) → (a ≡ arc) ⊎ HasStep arcs k j
    first (zero, l, e) = inl e
    first (suc n, l, e) = inr (n, omega arith, e)

    by : (b : Bool) → (a.after == j) ≡ b → (entering arcs j ≤ 1 → HasStep arcs k j → first_before arcs start j ≡ k)
        → entering (a ∷ arcs) j ≡ cond b 1 0 + entering arcs j → (if b then a.before else first_before arcs start j) ≡ k
    by true e later count = elim (first c) [
      | inl s ↦ ap (λ x. x.before) s
      | inr d ↦ absurd (omega (arith, few, count, sum_by-contains (λ x. cond (x.after == j) 1 0) arcs arc d, cond-yes 1 (eq-eqb j j refl)))
    ]
    by false e later count = later (omega (arith, count, few)) (elim (first c) [
      | inl s ↦ absurd (eqb-false a.after j e (ap (λ x. x.after) s))
      | inr d ↦ d
    ])

-- ---- in an instance
module _ (i : Instance) (ends : All (λ a. (a.before < length i.jobs) × (a.after < length i.jobs)) i.arcs) where
  step_ends : (j k : ℕ) → HasStep i.arcs j k → (j < length i.jobs) × (k < length i.jobs)
  step_ends j k c = All-contains (λ a. (a.before < length i.jobs) × (a.after < length i.jobs)) i.arcs (record { before = j; after = k }) ends c

  pub before_within : (j : ℕ) → before i j < length i.jobs + 1
  before_within j = elim (before_cases i.arcs (length i.jobs) j) [
    | inl s ↦ omega (arith, s)
    | inr c ↦ let e = (step_ends (before i j) j c).0 in omega (arith, e)
  ]

  -- the start is behind nothing but itself
  pub before_start : before i (length i.jobs) ≡ length i.jobs
  before_start = elim (before_cases i.arcs (length i.jobs) (length i.jobs)) [
    | inl s ↦ s
    | inr c ↦ let e = (step_ends (before i (length i.jobs)) (length i.jobs) c).1 in absurd (omega (arith, e))
  ]

  -- an order in which arcs go forward
  pub forward_from_arcs : (order : List ℕ) → OnceBelow (length i.jobs) order → AllPairs (MayPrecede i.arcs) order → IsForward (before i) order
  forward_from_arcs order o h a b d l m e =
      let x = get_or order a d in
      let y = get_or order b d in
      elim (before_cases i.arcs (length i.jobs) x) [
        | inl s ↦ let small = o.within b d m in absurd (omega (arith, s, e, small))
        | inr c ↦ h a b d l m (record { before = before i x; after = x }) c e refl
      ]

  module _ (few : (j : ℕ) → j < length i.jobs → entering i.arcs j ≤ 1) where
    -- and back
    pub steps_forward : (order : List ℕ) → IsForward (before i) order → AllPairs (λ x y. ¬ HasStep i.arcs y x) order
    steps_forward order f a b d l m c =
        f a b d l m (before_only i.arcs (length i.jobs) (get_or order a d) (get_or order b d) (few (get_or order a d) (step_ends (get_or order b d) (get_or order a d) c).1) c)

  -- ---- where the arcs have no cycle
  module _ (order : List ℕ) (q : IsSequence i order) (forward : All (GoesForward order) i.arcs) where
    pub no_loop : (j : ℕ) → ¬ HasStep i.arcs j j
    no_loop j c =
        let (m, n, less, at, to) = All-contains (GoesForward order) i.arcs (record { before = j; after = j }) forward c in
        absurd (omega (arith, less, same_place i order q j m n (step_ends j j c).0 at to))

    pub before_loose : (j : ℕ) → j < length i.jobs → before i j ≢ j
    before_loose j l e = elim (before_cases i.arcs (length i.jobs) j) [
      | inl s ↦ absurd (omega (arith, s, e, l))
      | inr c ↦ no_loop j (subst (λ k. HasStep i.arcs k j) e c)
    ]
