-- The jobs back to back in Lawler's order are a best schedule.
use Rattle.std.proofs.Common.{◌≡◌, ◌≢◌, ℕ, ◌+◌, ◌<◌, inl, inr, List, ◌∷◌, ◌++◌, length, get_or, take, drop, pos, ◌≤ℤ◌, All, AllPairs, Contains, refl, sym, ap, subst, ◌∙◌, arith}
use Rattle.std.proofs.lemmas.List.{take-append-drop, drop_more, get_or-take, length-take, get_or_default}
use Rattle.std.proofs.lemmas.List.Sums.{sum_by_more}
use Rattle.std.proofs.lemmas.List.Elements.{All-take, All-contains, Contains-get_or}
use Rattle.msp_class.proofs.IntegerRing.{≤ℤ_of_same, <ℤ_weak}
use Rattle.msp_class.proofs.Sums.{OnceBelow, OnceBelow-from_permutation, OnceBelow-distinct, OnceBelow-contains}
use Rattle.msp_instance.specs.declared.Instance.{Instance}
use Rattle.msp_instance.specs.Conditions.{Inner}
use Rattle.msp_instance.specs.Paths.{HasStep}
use Rattle.msp_pieces.specs.declared.Piece.{Piece}
use Rattle.msp_pieces.specs.Feasible.{Feasible}
use Rattle.msp_pieces.specs.Cost.{end_of}
use Rattle.msp_pieces.specs.BackToBack.{back_to_back, piece, time_at, schedule_in_order}
use Rattle.msp_pieces.proofs.lists.BackToBack.{back_to_back-last, end_in, end_in-at}
use Rattle.msp_pieces.proofs.feasible.OneMachine.{last_end-is}
use Rattle.msp_pieces.proofs.feasible.BackToBack.{piece_makes}
use Rattle.msp_single.specs.Lawler.{lawler_class, IsLawlerOrder}
use Rattle.msp_pieces.specs.Blocks.{total_time, IsCertified}
use Rattle.msp_pieces.proofs.bounds.Certified.{ranked, Rises, best_by_certificates}
use Rattle.msp_route.proofs.PlainJobs.{takes_time}
use Rattle.msp_single.proofs.LawlerFacts.{IsLawlerInstance, IsLawlerInstance-from_class}
use Rattle.msp_route.proofs.BackToBackAnswer.{IsBestRow, timed, short_jobs}
use Rattle.msp_route.proofs.BackToBackArcs.{forward_is_feasible}

module _ (i : Instance) (h : IsLawlerInstance i) (order : List ℕ) (o : IsLawlerOrder i order) where
  once : OnceBelow (length i.jobs) order
  once = OnceBelow-from_permutation o.all

  distinct : AllPairs (λ x y. x ≢ y) order
  distinct = OnceBelow-distinct once

  abbrev pieces : List Piece
  pieces = back_to_back piece (time_at i) 0 order

  abbrev rank : ℕ → ℕ
  rank = (ranked i h.inner.acyclic).0

  rises : Rises i rank
  rises = (ranked i h.inner.acyclic).1

  -- ---- arcs go forward
  loose : (j : ℕ) → ¬ HasStep i.arcs j j
  loose j c = let l : rank j < rank j = All-contains (λ a. rank a.before < rank a.after) i.arcs (record { before = j; after = j }) rises c in absurd (omega (arith, l))

  forward : AllPairs (λ x y. ¬ HasStep i.arcs y x) order
  forward a b d less inside c =
      let free = (o.last b inside).free in
      let here : get_or order b d ≡ get_or order b 0 = get_or_default order b d 0 inside in
      let not_there = All-contains (λ v. v.before ≡ get_or order b 0 → ¬ Contains (take (b + 1) order) v.after) i.arcs (record { before = get_or order b d; after = get_or order a d }) free c here in
      not_there (
        a,
        omega (arith, length-take (b + 1) order, less, inside),
        get_or-take (b + 1) order a (get_or order a d) (omega (arith, less)) ∙ get_or_default order a (get_or order a d) d (omega (arith, less, inside)),
      )

  lawler_is_feasible : Feasible i (schedule_in_order i order)
  lawler_is_feasible = forward_is_feasible i h.plain order once loose forward

  -- ---- each job is certified when it ends
  module _ (k : ℕ) (inside : k < length order) where
    abbrev moment : ℕ
    moment = total_time i (take (k + 1) order)

    abbrev first : List ℕ
    first = take (k + 1) order

    certified : IsCertified i (λ _. 0) (get_or order k 0) moment
    certified = record {
      jobs = first;
      from = 0;
      some = omega (arith, length-take (k + 1) order, inside);
      inside = All-take (λ x. x < length i.jobs) (k + 1) order once.within;
      apart = λ a b d less l.
          let short : b < k + 1 = omega (arith, length-take (k + 1) order, l) in
          let long : b < length order = omega (arith, length-take (k + 1) order, l) in
          λ e. distinct a b d less long (sym (get_or-take (k + 1) order a d (omega (arith, less, short))) ∙ e ∙ get_or-take (k + 1) order b d short);
      begin = λ a d l. omega arith;
      whole = omega arith;
      least = λ a d l free. elim ((o.last k inside).least a d l free) [ inl less ↦ <ℤ_weak less | inr e ↦ ≤ℤ_of_same e.0 ];
    }

    ends_then : end_of (schedule_in_order i order) (get_or order k 0) ≡ pos moment
    ends_then =
        let j = get_or order k 0 in
        let split : order ≡ take k order ++ j ∷ drop (k + 1) order = sym (take-append-drop k order) ∙ ap (λ l. take k order ++ l) (drop_more order k 0 inside) in
        let others : All (λ x. x ≢ j) (take k order) = λ a d l e. distinct a k 0 (omega (arith, length-take k order, l)) inside
        (get_or_default order a 0 d (omega (arith, length-take k order, l, inside)) ∙ sym (get_or-take k order a d (omega (arith, length-take k order, l))) ∙ e) in
        last_end-is pieces j (timed i h.plain order once)
        ∙ ap pos (back_to_back-last piece (time_at i) piece_makes 0 order j distinct (Contains-get_or order k 0 inside)
        ∙ ap (λ l. end_in (time_at i) 0 l j) split
        ∙ end_in-at (time_at i) 0 (take k order) j (drop (k + 1) order) others
        ∙ omega (arith, sum_by_more (time_at i) order k 0 inside))

  each_certified : (j : ℕ) → j < length i.jobs → (moment : ℕ) × (end_of (schedule_in_order i order) j ≤ℤ pos moment) × IsCertified i (λ _. 0) j moment
  each_certified j l =
      let (k, inside, e) = OnceBelow-contains once j l in
      let is : get_or order k 0 ≡ j = get_or_default order k 0 j inside ∙ e in
      (moment k inside, ≤ℤ_of_same (ap (end_of (schedule_in_order i order)) (sym is) ∙ ends_then k inside), subst (λ x. IsCertified i (λ _. 0) x (moment k inside)) is (certified k inside))

  lawler_row : IsBestRow i order
  lawler_row = record {
    short = short_jobs i h.plain order once;
    best = best_by_certificates i h.plain.machine (takes_time i h.plain) h.inner.conditions.ends
        (omega (arith, h.plain.some)) h.greatest (λ _. 0) (λ j l. inl (omega arith)) (schedule_in_order i order) refl lawler_is_feasible each_certified;
  }

pub IsBestRow-lawler : (i : Instance) → i.class ≡ lawler_class → Inner i → (order : List ℕ) → IsLawlerOrder i order → IsBestRow i order
IsBestRow-lawler i class inner order o = lawler_row i (IsLawlerInstance-from_class i class inner) order o
