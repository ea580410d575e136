-- The levels of jobs, from the last of a forward order to the first.
use Rattle.std.proofs.Common.{◌≡◌, ◌≢◌, ℕ, zero, suc, ◌+◌, ◌-◌, ◌<◌, ◌≤◌, inl, inr, max, List, [], ◌∷◌, ◌++◌, length, get_or, set, take, replicate, All, refl, sym, ap, subst, ◌∙◌, arith}
use Rattle.std.proofs.lemmas.Bool.{cases_lt}
use Rattle.std.proofs.lemmas.List.{get_or-replicate, get_or_past, get_or-set_same, get_or-set_other, take_more, length-replicate, length-set}
use Rattle.std.proofs.lemmas.List.Elements.{All-push, All-contains, All-weaker, Contains-append_left, Contains-push}
use Rattle.msp_class.specs.declared.sizes.TheConstants.{MOST_JOBS}
use Rattle.msp_class.proofs.Cases.{same_or_not}
use Rattle.msp_instance.specs.declared.Arc.{Arc}
use Rattle.msp_instance.specs.declared.Instance.{Instance}
use Rattle.msp_instance.specs.Conditions.{IsSequence, GoesForward}
use Rattle.msp_instance.specs.Paths.{HasStep}
use Rattle.msp_pieces.specs.Levels.{LeadsOut, IsLevel, AreLevels}
use Rattle.msp_pieces.proofs.lists.ForwardOrders.{at_inside, each_at, set_elsewhere, leads_to}
use Rattle.msp_levels.specs.Steps.{IsOver}

abbrev none : List ℕ
none = replicate MOST_JOBS 0

pub no_level : (k : ℕ) → get_or none k 0 ≡ 0
no_level k = elim (cases_lt k MOST_JOBS) [ inl l ↦ get_or-replicate MOST_JOBS k 0 0 l | inr l ↦ get_or_past none k 0 (omega (arith, length-replicate {A = ℕ} MOST_JOBS 0, l)) ]

-- ---- the arcs of one job
pub IsOver-none : (level : ℕ → ℕ) (job : ℕ) → IsOver [] level job 0
IsOver-none level job = record { reached = inl refl; above = λ k d l. absurd (omega (arith, l)) }

module _ (arcs : List Arc) (level : ℕ → ℕ) (job : ℕ) (k : ℕ) (a : Arc) (inside : k < length arcs) (at : a ≡ get_or arcs k a) where
  same : take (k + 1) arcs ≡ take k arcs ++ a ∷ []
  same = take_more arcs k a inside ∙ ap (λ x. take k arcs ++ x ∷ []) (sym at)

  pub IsOver-skip : (now : ℕ) → a.before ≢ job → IsOver (take k arcs) level job now → IsOver (take (k + 1) arcs) level job now
  IsOver-skip now other h = subst (λ l. IsOver l level job now) (sym same) (record {
    reached = elim h.reached [ inl z ↦ inl z | inr (b, c, e, r) ↦ inr (b, Contains-append_left (take k arcs) (a ∷ []) b c, e, r) ];
    above = All-push (λ b. b.before ≡ job → level b.after < now) (take k arcs) a h.above (λ e. absurd (other e));
  })

  pub IsOver-take : (old now : ℕ) → a.before ≡ job → now ≡ max old (level a.after + 1) → IsOver (take k arcs) level job old → IsOver (take (k + 1) arcs) level job now
  IsOver-take old now here e h = subst (λ l. IsOver l level job now) (sym same) (record {
    reached = elim (cases_lt (level a.after) old) [
      | inl less ↦ elim h.reached [ inl z ↦ absurd (omega (arith, less, z)) | inr (b, c, f, r) ↦ inr (b, Contains-append_left (take k arcs) (a ∷ []) b c, f, omega (arith, e, r, less)) ]
      | inr more ↦ inr (a, Contains-push (take k arcs) a, here, omega (arith, e, more))
    ];
    above = All-push (λ b. b.before ≡ job → level b.after < now) (take k arcs) a
        (All-weaker (λ b. b.before ≡ job → level b.after < old) (λ b. b.before ≡ job → level b.after < now) (λ b f g. let less = f g in omega (arith, e, less)) (take k arcs) h.above)
        (λ _. omega (arith, e));
  })

-- the level of a job, by the levels of those to which its arcs lead
pub IsLevel-from_over : (arcs : List Arc) (level : ℕ → ℕ) (job result : ℕ)
    → All (λ a. a.before ≡ job → IsLevel arcs a.after (level a.after)) arcs → IsOver arcs level job result → IsLevel arcs job result
IsLevel-from_over arcs level job result known h = record { path = path; longest = longest }
  where
    path : LeadsOut arcs result job
    path = elim h.reached [
      | inl z ↦ subst (λ n. LeadsOut arcs n job) (sym z) tt
      | inr (a, c, e, r) ↦
          let out : LeadsOut arcs (suc (level a.after)) job =
          (a.after, subst (λ x. HasStep arcs x a.after) e c, (All-contains (λ a. a.before ≡ job → IsLevel arcs a.after (level a.after)) arcs a known c e).path) in
          let is : result ≡ suc (level a.after) = omega (arith, r) in
          subst (λ n. LeadsOut arcs n job) (sym is) out
    ]

    longest : (n : ℕ) → LeadsOut arcs n job → n ≤ result
    longest zero p = omega arith
    longest (suc n) (k, c, p) =
        let less = All-contains (λ a. a.before ≡ job → level a.after < result) arcs (record { before = job; after = k }) h.above c refl in
        let more = (All-contains (λ a. a.before ≡ job → IsLevel arcs a.after (level a.after)) arcs (record { before = job; after = k }) known c refl).longest n p in
        omega (arith, less, more)

-- ---- from the last place to the first
pub record IsLeveled (i : Instance) (order : List ℕ) (place : ℕ) (levels : List ℕ) : Type 0 where
  pub wide : length levels ≡ MOST_JOBS
  pub inside : place ≤ length order
  pub done : (k : ℕ) → place ≤ k → k < length order → IsLevel i.arcs (get_or order k 0) (get_or levels (get_or order k 0) 0)
  pub small : (k : ℕ) → get_or levels k 0 + place ≤ length order

pub IsLeveled-start : (i : Instance) (order levels : List ℕ) (place : ℕ) → place ≡ length order → length levels ≡ MOST_JOBS → ((k : ℕ) → get_or levels k 0 ≡ 0) → IsLeveled i order place levels
IsLeveled-start i order levels place e wide none = record { wide = wide; inside = omega (arith, e); done = λ k h l. absurd (omega (arith, e, h, l)); small = λ k. omega (arith, e, none k) }

pub IsLeveled-end : (i : Instance) (order levels : List ℕ) (place : ℕ) → place ≡ 0 → IsSequence i order → IsLeveled i order place levels → AreLevels i (λ k. get_or levels k 0)
IsLeveled-end i order levels place e s h j b =
    each_at i order s (λ x. IsLevel i.arcs x (get_or levels x 0)) (λ k l. h.done k (omega (arith, e)) l) j b

module _ (i : Instance) (order : List ℕ) (s : IsSequence i order)
    (forward : All (GoesForward order) i.arcs) (levels : List ℕ) (place job value : ℕ) (some : place < length order) (at : job ≡ get_or order place 0)
    (wide : job < MOST_JOBS) (h : IsLeveled i order (place + 1) levels) (over : IsOver i.arcs (λ k. get_or levels k 0) job value) where
  known : All (λ a. a.before ≡ job → IsLevel i.arcs a.after (get_or levels a.after 0)) i.arcs
  known n d l e =
      let (q, later, near, after) = leads_to i order s forward place some n d l (e ∙ at) in
      subst (λ x. IsLevel i.arcs x (get_or levels x 0)) after (h.done q (omega (arith, later)) near)

  here : get_or (set levels job value) job 0 ≡ value
  here = get_or-set_same levels job value 0 (omega (arith, wide, h.wide))

  pub IsLeveled-next : IsLeveled i order place (set levels job value)
  IsLeveled-next = record { wide = length-set levels job value ∙ h.wide; inside = omega (arith, some); done = done; small = small }
    where
      first : IsLevel i.arcs job (get_or (set levels job value) job 0)
      first = subst (IsLevel i.arcs job) (sym here) (IsLevel-from_over i.arcs (λ k. get_or levels k 0) job value known over)

      done : (k : ℕ) → place ≤ k → k < length order → IsLevel i.arcs (get_or order k 0) (get_or (set levels job value) (get_or order k 0) 0)
      done k from l = elim (cases_lt place k) [
        | inl past ↦
            let same = subst (λ x. get_or (set levels x value) (get_or order k 0) 0 ≡ get_or levels (get_or order k 0) 0)
            (sym at) (set_elsewhere i order s levels place k value some l (λ e. omega (arith, e, past))) in
            subst (IsLevel i.arcs (get_or order k 0)) (sym same) (h.done k (omega (arith, past)) l)
        | inr now ↦
            let is : k ≡ place = omega (arith, from, now) in
            subst (λ x. IsLevel i.arcs x (get_or (set levels job value) x 0)) (at ∙ ap (λ n. get_or order n 0) (sym is)) first
      ]

      size : value + place ≤ length order
      size = elim over.reached [ inl z ↦ omega (arith, z, some) | inr (a, c, e, r) ↦ omega (arith, r, h.small a.after) ]

      small : (k : ℕ) → get_or (set levels job value) k 0 + place ≤ length order
      small k = elim (same_or_not k job) [
        | inl is ↦ omega (arith, ap (λ x. get_or (set levels job value) x 0) is, here, size)
        | inr ne ↦ omega (arith, get_or-set_other levels job k value 0 ne, h.small k)
      ]

-- at the numbers as the code passes them
pub job_below : (i : Instance) (order : List ℕ) → IsSequence i order → (p : ℕ) → length i.jobs ≤ MOST_JOBS → p < length order → get_or order p 0 < MOST_JOBS
job_below i order s p few l = omega (arith, at_inside i order s p l, few)

pub placed : (i : Instance) (order : List ℕ) → IsSequence i order → All (GoesForward order) i.arcs
    → (levels : List ℕ) (place job value : ℕ) (arcs : List Arc) → arcs ≡ i.arcs → length i.jobs ≤ MOST_JOBS → 0 < place → job ≡ get_or order (place - 1) 0
    → IsOver arcs (λ k. get_or levels k 0) job value → IsLeveled i order place levels → IsLeveled i order (place - 1) (set levels job value)
placed i order s forward levels place job value arcs e few some at over h =
    let one : place ≡ place - 1 + 1 = omega (arith, some) in
    let inside : place - 1 < length order = omega (arith, some, h.inside) in
    IsLeveled-next i order s forward levels (place - 1) job value inside at (subst (λ x. x < MOST_JOBS) (sym at) (job_below i order s (place - 1) few inside))
    (subst (λ n. IsLeveled i order n levels) one h) (subst (λ l. IsOver l (λ k. get_or levels k 0) job value) e over)
