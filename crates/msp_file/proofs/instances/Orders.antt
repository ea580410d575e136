-- Jobs have an order in which every arc goes forward, or some job is the least on a cycle.
use Rattle.std.proofs.Common.{◌≡◌, ◌≢◌, ℕ, zero, suc, ◌+◌, ◌<◌, ◌⊎◌, inl, inr, ◌==◌, ◌&&◌, ◌||◌, true, false, Bool, List, [], ◌∷◌, ◌++◌, length, get_or, take, All, AllPairs}
use Rattle.std.proofs.Common.{Contains, refl, sym, ap, ◌∙◌, subst, arith, length-append}
use Rattle.std.specs.List.{list_any}
use Rattle.std.proofs.lemmas.Bool.{cases_Bool, cases_lt, eqb-true, eq-eqb, and_parts, or_cases, or_left, or_right, false≢true}
use Rattle.std.proofs.lemmas.List.{take_all, take-append-le, get_or_append_left, get_or-append-add}
use Rattle.std.proofs.lemmas.List.Elements.{All-nil, All-push, All-contains}
use Rattle.std.proofs.lemmas.List.Sorted.{IsPermutation-refl}
use Rattle.std.proofs.lemmas.List.Folds.{list_any_at, Any-from_list_any}
use Rattle.msp_class.proofs.Sums.{count_by-distinct}
use Rattle.msp_instance.specs.declared.Arc.{Arc}
use Rattle.msp_instance.specs.declared.Instance.{Instance}
use Rattle.msp_instance.specs.Conditions.{IsAcyclic}
use Rattle.msp_instance.specs.Paths.{HasStep, HasPath, one, IsLeastOnCycle}
use Rattle.msp_instance.specs.Listing.{waiting, IsLongestOrder}
use Rattle.msp_instance.proofs.ListingLemmas.{list_any-from_Contains, Contains-from_list_any, length-once}
use Rattle.msp_instance.proofs.OrderLemmas.{Contains-from_waiting, waiting-some}
use Rattle.msp_instance.proofs.SearchLemmas.{HasPath-push, HasPath-closed}
use Rattle.msp_instance.proofs.CycleLemmas.{IsSequence-from_longest, GoesForward-from_longest, cycle_from_short}
use Rattle.msp_file.proofs.instances.Apart.{apart_push}
use Rattle.msp_file.proofs.instances.Deciding.{Told, both, unless, equal_told, true_told, false_told, first_broken, some_below}

not_in : (xs : List ℕ) (k : ℕ) → list_any (λ x. x == k) xs ≡ false → ¬ Contains xs k
not_in xs k e c = false≢true (sym e ∙ list_any-from_Contains xs k c)

out_of : (xs : List ℕ) (k : ℕ) → ¬ Contains xs k → list_any (λ x. x == k) xs ≡ false
out_of xs k absent = elim (cases_Bool (list_any (λ x. x == k) xs)) [ inl e ↦ absurd (absent (Contains-from_list_any xs k e)) | inr e ↦ e ]

-- ---- the longest order

module _ (arcs : List Arc) (n : ℕ) where
  -- jobs in order, each after all from which an arc leads to it
  record IsEarly (order : List ℕ) : Type 0 where
    inside : All (λ j. j < n) order
    apart : AllPairs (λ j k. j ≢ k) order
    early : (j q : ℕ) → q < length order → HasStep arcs j (get_or order q 0) → Contains (take q order) j

  early_push : (order : List ℕ) (k : ℕ) → IsEarly order → k < n → ¬ Contains order k → waiting arcs order k ≡ 0 → IsEarly (order ++ k ∷ [])
  early_push order k h within fresh quiet = record { inside = All-push (λ j. j < n) order k h.inside within; apart = apart_push order k h.apart fresh; early = early }
    where
      early : (j q : ℕ) → q < length (order ++ k ∷ []) → HasStep arcs j (get_or (order ++ k ∷ []) q 0) → Contains (take q (order ++ k ∷ [])) j
      early j q less step = elim (cases_lt q (length order)) [
        | inl before ↦
            let same : get_or (order ++ k ∷ []) q 0 ≡ get_or order q 0 = get_or_append_left order (k ∷ []) 0 q before in
            subst (λ (l : List ℕ). Contains l j) (sym (take-append-le q order (k ∷ []) (omega arith))) (h.early j q before (subst (HasStep arcs j) same step))
        | inr past ↦
            let at : q ≡ length order = omega (arith, length-append order (k ∷ [])) in
            let last : get_or (order ++ k ∷ []) q 0 ≡ k = ap (λ m. get_or (order ++ k ∷ []) m 0) (at ∙ omega arith) ∙ get_or-append-add order (k ∷ []) 0 0 in
            let cut : take q (order ++ k ∷ []) ≡ order =
            ap (λ m. take m (order ++ k ∷ [])) at ∙ take-append-le (length order) order (k ∷ []) (omega arith) ∙ take_all (length order) order (omega arith) in
            subst (λ (l : List ℕ). Contains l j) (sym cut) (Contains-from_waiting arcs order j k quiet (subst (HasStep arcs j) last step))
      ]

  abbrev IsNext : List ℕ → ℕ → Type 0
  IsNext order k = (list_any (λ x. x == k) order ≡ false) × (waiting arcs order k ≡ 0)

  next_told : (order : List ℕ) (k : ℕ) → Told (IsNext order k)
  next_told order k = both (false_told _) (equal_told _ 0)

  some_waits : (order : List ℕ) (k : ℕ) → ¬ IsNext order k → ¬ Contains order k → 0 < waiting arcs order k
  some_waits order k absent out = elim (cases_lt 0 (waiting arcs order k)) [ inl h ↦ h | inr h ↦ absurd (absent (out_of order k out, omega arith)) ]

  longest_from : (fuel : ℕ) (order : List ℕ) → IsEarly order → n < fuel + length order → (longest : List ℕ) × IsLongestOrder arcs n longest
  longest_from zero order h enough = absurd (omega (arith, length-once n order h.inside (λ k. count_by-distinct order k h.apart)))
  longest_from (suc fuel) order h enough = elim (some_below (IsNext order) (next_told order) n) [
    | inl f ↦ longest_from fuel (order ++ f.0 ∷ []) (early_push order f.0 h f.1 (not_in order f.0 f.2.0) f.2.1) (omega (arith, length-append order (f.0 ∷ [])))
    | inr none ↦ (order, record { inside = h.inside; apart = h.apart; early = h.early; left = λ k less out. waiting-some arcs order k (some_waits order k (none k less) out) })
  ]

  longest_order : (longest : List ℕ) × IsLongestOrder arcs n longest
  longest_order = longest_from (n + 1) [] (record { inside = All-nil (λ j. j < n); apart = λ i j d less within. absurd (omega arith); early = λ j q less step. absurd (omega arith) }) (omega arith)

-- ---- whether a path leads from a job to itself

module _ (arcs : List Arc) (n : ℕ) (ends : All (λ a. (a.before < n) × (a.after < n)) arcs) (start : ℕ) where
  -- jobs to which paths lead
  record IsReached (xs : List ℕ) : Type 0 where
    inside : All (λ j. j < n) xs
    apart : AllPairs (λ j k. j ≢ k) xs
    paths : All (HasPath arcs start) xs

  -- an arc leads to the job from the first one or from one of the list
  abbrev leads : List ℕ → ℕ → Arc → Bool
  leads xs k a = (a.after == k) && ((a.before == start) || list_any (λ x. x == a.before) xs)

  abbrev IsMore : List ℕ → ℕ → Type 0
  IsMore xs k = (list_any (λ x. x == k) xs ≡ false) × (list_any (leads xs k) arcs ≡ true)

  more_told : (xs : List ℕ) (k : ℕ) → Told (IsMore xs k)
  more_told xs k = both (false_told _) (true_told _)

  arc_of : (a : Arc) (j k : ℕ) → a.before ≡ j → a.after ≡ k → Contains arcs a → HasStep arcs j k
  arc_of a j k p q c = subst (λ m. HasStep arcs m k) p (subst (λ m. HasStep arcs a.before m) q c)

  path_to : (xs : List ℕ) (k : ℕ) → IsReached xs → list_any (leads xs k) arcs ≡ true → HasPath arcs start k
  path_to xs k h e =
      let f = Any-from_list_any (leads xs k) arcs e in
      let a = f.1 in
      let c : Contains arcs a = (f.0, f.2, f.3) in
      let parts = and_parts (a.after == k) ((a.before == start) || list_any (λ x. x == a.before) xs) f.4 in
      let after = eqb-true a.after k parts.0 in
      elim (or_cases (a.before == start) (list_any (λ x. x == a.before) xs) parts.1) [
        | inl own ↦ one (arc_of a start k (eqb-true a.before start own) after c)
        | inr there ↦ HasPath-push arcs (All-contains (HasPath arcs start) xs a.before h.paths (Contains-from_list_any xs a.before there)) (arc_of a a.before k refl after c)
      ]

  leads_here : (xs : List ℕ) (j k : ℕ) → ((j == start) || list_any (λ x. x == j) xs) ≡ true → HasStep arcs j k → list_any (leads xs k) arcs ≡ true
  leads_here xs j k from step =
      let a : Arc = record { before = j; after = k } in
      let test : leads xs k a ≡ true = rw (eq-eqb k k refl, from) refl in
      list_any_at (leads xs k) arcs step.0 a step.1 (subst (λ (b : Arc). leads xs k b ≡ true) (sym step.2) test)

  closed_under : (xs : List ℕ) → ((k : ℕ) → k < n → ¬ IsMore xs k) → (j k : ℕ) → ((j == start) || list_any (λ x. x == j) xs) ≡ true → HasStep arcs j k → Contains xs k
  closed_under xs none j k from step = elim (cases_Bool (list_any (λ x. x == k) xs)) [
    | inl e ↦ Contains-from_list_any xs k e
    | inr e ↦ absurd (none k (All-contains (λ a. (a.before < n) × (a.after < n)) arcs (record { before = j; after = k }) ends step).1 (e, leads_here xs j k from step))
  ]

  path_told_from : (fuel : ℕ) (xs : List ℕ) → IsReached xs → n < fuel + length xs → (k : ℕ) → Told (HasPath arcs start k)
  path_told_from zero xs h enough k = absurd (omega (arith, length-once n xs h.inside (λ j. count_by-distinct xs j h.apart)))
  path_told_from (suc fuel) xs h enough k = elim (some_below (IsMore xs) (more_told xs) n) [
    | inl f ↦
        path_told_from fuel (xs ++ f.0 ∷ []) (record {
          inside = All-push (λ j. j < n) xs f.0 h.inside f.1;
          apart = apart_push xs f.0 h.apart (not_in xs f.0 f.2.0);
          paths = All-push (HasPath arcs start) xs f.0 h.paths (path_to xs f.0 h f.2.1);
        }) (omega (arith, length-append xs (f.0 ∷ []))) k
    | inr none ↦ elim (cases_Bool (list_any (λ x. x == k) xs)) [
      | inl e ↦ inl (All-contains (HasPath arcs start) xs k h.paths (Contains-from_list_any xs k e))
      | inr e ↦ inr (λ p. not_in xs k e (HasPath-closed arcs xs (λ i j c step. closed_under xs none i j (or_right (i == start) _ (list_any-from_Contains xs i c)) step)
          (λ j step. closed_under xs none start j (or_left (start == start) _ (eq-eqb start start refl)) step) p))
    ]
  ]

  path_told : (k : ℕ) → Told (HasPath arcs start k)
  path_told k = path_told_from (n + 1) [] (record { inside = All-nil (λ j. j < n); apart = λ i j d less within. absurd (omega arith); paths = All-nil (HasPath arcs start) }) (omega arith) k

-- ---- an order or a cycle

pub order_or_cycle : (i : Instance) → All (λ a. (a.before < length i.jobs) × (a.after < length i.jobs)) i.arcs → IsAcyclic i ⊎ ((j : ℕ) × IsLeastOnCycle (length i.jobs) i.arcs j)
order_or_cycle i ends =
    let n = length i.jobs in
    let longest = longest_order i.arcs n in
    let bound = length-once n longest.0 longest.1.inside (λ k. count_by-distinct longest.0 k longest.1.apart) in
    elim (cases_lt (length longest.0) n) [
      | inl short ↦
          let found = cycle_from_short i.arcs n longest.0 ends longest.1 short in
          elim (first_broken (λ k. ¬ HasPath i.arcs k k) (λ k. unless (path_told i.arcs n ends k k)) n) [
            | inl f ↦ elim (path_told i.arcs n ends f.0 f.0) [
              | inl path ↦ inr (f.0, record { inside = f.1; cycle = path; least = f.3 })
              | inr absent ↦ absurd (f.2 absent)
            ]
            | inr none ↦ absurd (none found.0 found.1 found.2)
          ]
      | inr past ↦
          let whole : length longest.0 ≡ n = omega arith in
          inl (longest.0, IsSequence-from_longest i i.arcs longest.0 longest.1 whole, GoesForward-from_longest i i.arcs longest.0 (IsPermutation-refl i.arcs) ends longest.1 whole)
    ]
