-- The search for the job that ends last: one more job, and what was found among all.
use Rattle.std.proofs.Common.{◌≡◌, ℕ, ◌+◌, ◌<◌, ◌≤◌, ◌⊎◌, inl, inr, Bool, true, false, ◌==◌, ◌&&◌, List, length, get_or, take, Option, Some, None, IfSome, ℤ, ◌<ℤ◌, All}
use Rattle.std.proofs.Common.{IsPermutation, sym, ap, ◌∙◌, subst, arith, slice_index_or}
use Rattle.std.specs.List.{list_any}
use Rattle.std.proofs.lemmas.Bool.{cases_Bool, eqb-true, eq-eqb, false≢true}
use Rattle.std.proofs.lemmas.Int.{ints}
use Rattle.std.proofs.lemmas.List.{take_all, take_more}
use Rattle.std.proofs.lemmas.List.Folds.{list_any_none, list_any_at}
use Rattle.std.proofs.lemmas.List.Sorted.{list_any-IsPermutation}
use Rattle.std.proofs.lemmas.List.Elements.{All-push, All-contains}
use Rattle.msp_class.specs.declared.sizes.TheConstants.{MOST_JOBS}
use Rattle.msp_instance.specs.declared.Arc.{Arc}
use Rattle.msp_instance.specs.declared.Instance.{Instance}
use Rattle.msp_instance.specs.Conditions.{IsAcyclic}
use Rattle.msp_instance.proofs.ListingLemmas.{list_any-from_Contains, Contains-from_list_any}
use Rattle.msp_pieces.proofs.lists.Intervals.{greatest_by-contains, greatest_by-reached}
use Rattle.msp_route.specs.declared.last_job.Candidate.{Candidate}
use Rattle.msp_pieces.specs.Blocks.{cost_at, HasNoSuccessor}
use Rattle.msp_route.specs.LastJob.{CostsLess, EndsAt}
use Rattle.msp_route.specs.Candidates.{Precedes, IsFirstCandidate, IsFound}
use Rattle.msp_pieces.proofs.bounds.Certified.{ranked}

-- ---- one more job
module _ (jobs : List ℕ) (blocked : ℕ → Bool) (cost : ℕ → ℤ) (k : ℕ) (j : ℕ) (inside : k < length jobs) (at : j ≡ get_or jobs k 0) where
  more : (P : ℕ → Type 0) → All P (take k jobs) → P j → All P (take (k + 1) jobs)
  more P h p = subst (All P) (sym (take_more jobs k 0 inside)) (All-push P (take k jobs) (get_or jobs k 0) h (subst P at p))

  pub found-skip : (best : Option Candidate) → blocked j ≡ true → IsFound jobs blocked cost k best → IsFound jobs blocked cost (k + 1) best
  found-skip None b h = more (λ x. blocked x ≡ true) h b
  found-skip (Some c) b h = record {
    early = omega (arith, h.early);
    is = h.is;
    price = h.price;
    free = h.free;
    first = more (λ x. blocked x ≡ false → Precedes c (cost x) x) h.first (λ e. absurd (false≢true (sym e ∙ b)));
  }

  abbrev Chosen : Candidate → Type 0
  Chosen c = (c.place < k + 1) × (c.job ≡ get_or jobs c.place 0) × (c.cost ≡ cost c.job) × (blocked c.job ≡ false)

  pub found-take : (best : Option Candidate) (next result : Candidate) → blocked j ≡ false → next.place ≡ k → next.job ≡ j → next.cost ≡ cost j
      → (result ≡ next) ⊎ (best ≡ Some result) → Precedes result next.cost next.job → IfSome best (λ b. Precedes result b.cost b.job)
      → IsFound jobs blocked cost k best → IsFound jobs blocked cost (k + 1) (Some result)
  found-take best next result free place job price either ahead behind h = record {
    early = chosen.0;
    is = chosen.1;
    price = chosen.2;
    free = chosen.3;
    first = more (λ x. blocked x ≡ false → Precedes result (cost x) x) (earlier best h behind) (λ e. here);
  }
    where
      here : Precedes result (cost j) j
      here = elim ahead [ inl l ↦ inl (subst (λ z. result.cost <ℤ z) price l) | inr e ↦ inr (e.0 ∙ price, omega (arith, e.1, job)) ]

      earlier : (b : Option Candidate) → IsFound jobs blocked cost k b → IfSome b (λ b. Precedes result b.cost b.job) → All (λ x. blocked x ≡ false → Precedes result (cost x) x) (take k jobs)
      earlier None f g = λ n d l e. absurd (false≢true (sym e ∙ f n d l))
      earlier (Some b) f g = λ n d l e. let old = f.first n d l e in grind (arith, ints, g, old)

      newest : Chosen next
      newest = (omega (arith, place), job ∙ at ∙ ap (λ n. get_or jobs n 0) (sym place), price ∙ ap cost (sym job), ap blocked job ∙ free)

      kept : (b : Option Candidate) → b ≡ Some result → IsFound jobs blocked cost k b → Chosen result
      kept None e f = absurd (cc)
      kept (Some b) e f = let same : b ≡ result = cc in subst Chosen same (omega (arith, f.early), f.is, f.price, f.free)

      chosen : Chosen result
      chosen = elim either [ inl e ↦ subst Chosen (sym e) newest | inr e ↦ kept best e h ]

-- ---- flags and successors
module _ (i : Instance) (left : List ℕ) (flags : List Bool) (blocked : ℕ → Bool) (arcs : List Arc)
    (same : IsPermutation i.arcs arcs) (few : length i.jobs ≤ MOST_JOBS) (ends : All (λ a. (a.before < length i.jobs) × (a.after < length i.jobs)) i.arcs)
    (flagged : (j : ℕ) → j < MOST_JOBS → slice_index_or flags j false ≡ list_any (λ k. k == j) left)
    (blocked_is : (j : ℕ) → j < MOST_JOBS → blocked j ≡ list_any (λ a. a.before == j && slice_index_or flags a.after false) arcs) where
  abbrev leads : ℕ → Arc → Bool
  leads j a = a.before == j && slice_index_or flags a.after false

  in_arcs : (j : ℕ) → j < length i.jobs → blocked j ≡ list_any (leads j) i.arcs
  in_arcs j l = blocked_is j (omega (arith, l, few)) ∙ sym (list_any-IsPermutation (leads j) i.arcs arcs same)

  flag_is : All (λ a. slice_index_or flags a.after false ≡ list_any (λ k. k == a.after) left) i.arcs
  flag_is k d l = flagged (get_or i.arcs k d).after (omega (arith, (ends k d l).1, few))

  pub free_from_open : (j : ℕ) → j < length i.jobs → blocked j ≡ false → HasNoSuccessor i left j
  free_from_open j inside unflagged k d l e c =
      let a = get_or i.arcs k d in
      let yes : leads j a ≡ true = ap (λ b. b && slice_index_or flags a.after false) (eq-eqb a.before j e) ∙ flag_is k d l ∙ list_any-from_Contains left a.after c in
      false≢true (sym unflagged ∙ in_arcs j inside ∙ list_any_at (leads j) i.arcs k d l yes)

  pub open_from_free : (j : ℕ) → j < length i.jobs → HasNoSuccessor i left j → blocked j ≡ false
  open_from_free j inside free = in_arcs j inside ∙ list_any_none (leads j) i.arcs (λ k d l. one k d l (cases_Bool (a_before k d)) (cases_Bool (slice_index_or flags (get_or i.arcs k d).after false)))
    where
      a_before : ℕ → Arc → Bool
      a_before k d = (get_or i.arcs k d).before == j

      one : (k : ℕ) (d : Arc) → k < length i.arcs → (a_before k d ≡ true) ⊎ (a_before k d ≡ false)
          → (slice_index_or flags (get_or i.arcs k d).after false ≡ true) ⊎ (slice_index_or flags (get_or i.arcs k d).after false ≡ false) → leads j (get_or i.arcs k d) ≡ false
      one k d l (inl e) (inl m) = absurd (free k d l (eqb-true (get_or i.arcs k d).before j e) (Contains-from_list_any left (get_or i.arcs k d).after (sym (flag_is k d l) ∙ m)))
      one k d l (inl e) (inr m) = ap (λ b. b && slice_index_or flags (get_or i.arcs k d).after false) e ∙ m
      one k d l (inr e) m = ap (λ b. b && slice_index_or flags (get_or i.arcs k d).after false) e

  module _ (inside : All (λ j. j < length i.jobs) left) where
    -- of the jobs left the one latest in a forward list has no arc to a job left
    pub some_open : IsAcyclic i → 0 < length left → All (λ j. blocked j ≡ true) (take (length left) left) → ⊥
    some_open acyclic some h =
        let (rank, rises) = ranked i acyclic in
        let (j, c, top) = greatest_by-reached rank left some in
        let free : HasNoSuccessor i left j = λ k d l e c'. omega (arith, rises k d l, ap rank e, top, greatest_by-contains rank left (get_or i.arcs k d).after c') in
        let shut : All (λ j. blocked j ≡ true) left = subst (All (λ j. blocked j ≡ true)) (take_all (length left) left (omega arith)) h in
        false≢true (sym (open_from_free j (All-contains (λ j. j < length i.jobs) left j inside c) free) ∙ All-contains (λ j. blocked j ≡ true) left j shut c)

    pub ends_last : (c : Candidate) (moment : ℕ) → IsFirstCandidate left blocked (λ j. cost_at i j moment) (length left) c → EndsAt i moment left (get_or left c.place 0)
    ends_last c moment h = subst (EndsAt i moment left) h.is (record {
      free = free_from_open c.job here h.free;
      least = λ k d l free. in_costs (get_or left k d) (all k d l (open_from_free (get_or left k d) (inside k d l) free));
    })
      where
        here : c.job < length i.jobs
        here = subst (λ x. x < length i.jobs) (sym h.is) (inside c.place 0 h.early)

        all : All (λ x. blocked x ≡ false → Precedes c (cost_at i x moment) x) left
        all = subst (All (λ x. blocked x ≡ false → Precedes c (cost_at i x moment) x)) (take_all (length left) left (omega arith)) h.first

        in_costs : (x : ℕ) → Precedes c (cost_at i x moment) x → CostsLess i moment c.job x
        in_costs x p = elim p [ inl l ↦ inl (subst (λ z. z <ℤ cost_at i x moment) h.price l) | inr q ↦ inr (sym h.price ∙ q.0, q.1) ]
