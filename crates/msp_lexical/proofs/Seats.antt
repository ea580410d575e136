-- Schedules in the order of a list, seat by seat: what slots and segments need.
use Rattle.std.proofs.Common.{◌≡◌, ℕ, zero, suc, ◌+◌, ◌-◌, ◌<◌, ◌≤◌, ◌⊎◌, inl, inr, Bool, true, cond, ◌==◌, ◌&&◌, List, length, All, AllPairs, Contains, refl, sym, ap, ap₂, subst}
use Rattle.std.proofs.Common.{subst₂, ◌∙◌, arith, lt_of_not-le, ltb}
use Rattle.std.proofs.lemmas.Bool.{cases_Bool, cases_lt, eqb-true, eq-eqb, ltb-true, ltb-false, false≢true, and_from, and_parts, and_cases, cond-true, cond-false}
use Rattle.std.specs.List.{range_with_len, position_or_len}
use Rattle.std.proofs.lemmas.List.FromFn.{length-range_with_len, get_or-range_with_len}
use Rattle.std.proofs.lemmas.List.Sums.{passes_at_first, fails_before_first}
use Rattle.std.proofs.lemmas.List.Elements.{All-contains}
use Rattle.msp_instance.specs.declared.Arc.{Arc}
use Rattle.msp_instance.specs.declared.Instance.{Instance}
use Rattle.msp_instance.specs.Paths.{HasStep, HasPath, one, more}
use Rattle.msp_pieces.proofs.feasible.OneMachine.{both_true}
use Rattle.msp_pieces.proofs.lists.Intervals.{greatest_below, greatest_below-bound, greatest_below-reached}
use Rattle.msp_slots.specs.ListSchedule.{StandsBefore, RunsInOrder}
use Rattle.msp_slots.proofs.Progress.{IsOrdered}
use Rattle.msp_slots.proofs.ListSchedules.{no_moment_idle}
use Rattle.msp_lexical.specs.Slots.{AreSlots, IsEnd, IsInner, AreTops, AreSeats}
use Rattle.msp_lexical.specs.Steps.{AreLabels}
use Rattle.msp_lexical.proofs.Labelling.{Shows, path_joined, path_lower}

module _ (i : Instance) (order : List ℕ) (begin machine label : ℕ → ℕ) (leads : ℕ → ℕ → Bool) (r : RunsInOrder i order begin machine)
    (ordered : IsOrdered i) (two : i.machines ≡ 2) (ends : All (λ a. (a.before < length i.jobs) × (a.after < length i.jobs)) i.arcs) (shows : Shows i leads)
    (labels : AreLabels i leads label) (falling : AllPairs (λ a b. label b ≤ label a) order) where
  abbrev n : ℕ
  n = length i.jobs

  ahead : (a b : ℕ) → StandsBefore order a b → label b ≤ label a
  ahead a b (p, q, less, l, e, f) = subst₂ (λ x y. label y ≤ label x) e f (falling p q 0 less l)

  step_later : (j k : ℕ) → HasStep i.arcs j k → begin j < begin k
  step_later j k step = All-contains (λ a. begin a.before < begin a.after) i.arcs (record { before = j; after = k }) r.forward step

  path_later : {j k : ℕ} → HasPath i.arcs j k → begin j < begin k
  path_later {j} {k} (one step) = step_later j k step
  path_later {j} {k} (more {k = m} step p) = omega (arith, step_later j m step, path_later p)

  module _ (slots : ℕ) (seat : ℕ → ℕ → ℕ) (h : AreSeats n begin machine slots seat) where
    abbrev first : ℕ → ℕ
    first x = seat x 0

    abbrev second : ℕ → ℕ
    second x = seat x 1

    pub AreSlots-from : AreSlots n slots begin label first second leads
    AreSlots-from = record {
      distinct = labels.distinct;
      first_in = first_in;
      second_in = second_in;
      only = only;
      later = λ j k b c to. path_later ((shows j k b c).0 to);
      lower = λ j k b c to. path_lower i ends label n (λ p d l _. labels.lower p d l) ((shows j k b c).0 to) (labels.small j b);
      joined = λ j k l b c d to on. (shows j l b d).1 (path_joined i ends ((shows j k b c).0 to) ((shows k l c d).0 on));
      greedy = greedy;
      ranked = λ a b y in_a in_b in_y less to not_to. let (k, c, _, greater, to_k, not_k) = labels.ranked a b in_a in_b less y in_y (labels.small y in_y) to not_to in (k, c, greater, to_k, not_k);
    }
      where
        at : (x m k : ℕ) → k < n → begin k ≡ x → machine k ≡ m → seat x m ≡ k
        at x m k c e f = ap₂ seat (sym e) (sym f) ∙ h.seated k c

        first_in : (x : ℕ) → x < slots → (first x < n) × (begin (first x) ≡ x)
        first_in x l =
            let (j, b, last) = h.reached x l in
            let (k, c, e, m) = no_moment_idle i order ordered begin machine r j x b last in
            let same = at x 0 k c e m in
            (subst (λ z. z < n) (sym same) c, ap begin same ∙ e)

        second_in : (x : ℕ) → x < slots → second x < n → (begin (second x) ≡ x) × (label (second x) < label (first x))
        second_in x l b =
            let (e, m) = h.from_seat x 1 l (omega arith) b in
            let (k, c, f, z, before) = r.machines (second x) 0 b (omega (arith, m)) in
            let same = at x 0 k c (f ∙ e) z in
            let most = ahead k (second x) before in
            (e, less k c z m most same)
          where
            less : (k : ℕ) → k < n → machine k ≡ 0 → machine (second x) ≡ 1 → label (second x) ≤ label k → first x ≡ k → label (second x) < label (first x)
            less k c z m most same = lt_of_not-le (λ r.
                omega (arith, ap machine (labels.distinct (second x) k b c (omega (arith, r, most, ap label same))), z, m))

        only : (j : ℕ) → j < n → (begin j < slots) × ((j ≡ first (begin j)) ⊎ (j ≡ second (begin j)))
        only j b = (
          h.below j b,
          elim (cases_lt (machine j) 1) [
            | inl less ↦ inl (sym (at (begin j) 0 j b refl (omega (arith, less))))
            | inr more_ ↦ inr (sym (at (begin j) 1 j b refl (omega (arith, more_, r.inside j b, two))))
          ],
        )

        greedy : (j x : ℕ) → j < n → x < begin j → ((k : ℕ) × (k < n) × (leads k j ≡ true) × (x ≤ begin k)) ⊎ ((second x < n) × (label j ≤ label (second x)))
        greedy j x b l = elim (r.waits j x b l) [
          | inl w ↦ let (a, c, e, late) = w in waits a c e late
          | inr w ↦
              let (k, c, e, m, before) = w 1 (omega (arith, two)) in
              let same = at x 1 k c e m in
              inr (subst (λ z. z < n) (sym same) c, omega (arith, ahead k j before, ap label same))
        ]
          where
            waits : (a : Arc) → Contains i.arcs a → a.after ≡ j → x ≤ begin a.before → ((k : ℕ) × (k < n) × (leads k j ≡ true) × (x ≤ begin k)) ⊎ ((second x < n) × (label j ≤ label (second x)))
            waits a c e late =
                let inside = All-contains (λ a. (a.before < n) × (a.after < n)) i.arcs a ends c in
                let step : HasStep i.arcs a.before j = subst (λ k. HasStep i.arcs a.before k) e c in
                inl (a.before, inside.0, (shows a.before j inside.0 b).1 (one step), late)

-- ---- seats and least labels there are
abbrev at_seat : (ℕ → ℕ) → (ℕ → ℕ) → ℕ → ℕ → ℕ → Bool
at_seat begin machine x m j = (begin j == x) && (machine j == m)

some_seat : ℕ → (ℕ → ℕ) → (ℕ → ℕ) → ℕ → ℕ → ℕ
some_seat n begin machine x m = position_or_len (at_seat begin machine x m) (range_with_len 0 n)

module _ (n : ℕ) (begin machine : ℕ → ℕ) (some : 0 < n) (apart : (j k : ℕ) → j < n → k < n → begin j ≡ begin k → machine j ≡ machine k → j ≡ k) where
  seat_passes : (x m : ℕ) → some_seat n begin machine x m < n → (begin (some_seat n begin machine x m) ≡ x) × (machine (some_seat n begin machine x m) ≡ m)
  unfolding some_seat
  seat_passes x m l =
      let test = at_seat begin machine x m in
      let k = position_or_len test (range_with_len 0 n) in
      let passes = passes_at_first test (range_with_len 0 n) 0 (omega (arith, l, length-range_with_len 0 n)) in
      let both = both_true (begin k == x) (machine k == m) (subst (λ j. test j ≡ true) (get_or-range_with_len 0 n k 0 l ∙ omega arith) passes) in
      (eqb-true (begin k) x both.0, eqb-true (machine k) m both.1)

  seat_found : (j : ℕ) → j < n → some_seat n begin machine (begin j) (machine j) < n
  unfolding some_seat
  seat_found j l = elim (cases_lt j (position_or_len test (range_with_len 0 n))) [
    | inl past ↦ absurd (false≢true (sym (fails_before_first test (range_with_len 0 n) j 0 past) ∙ ap test (get_or-range_with_len 0 n j 0 l ∙ omega arith)
        ∙ and_from (begin j == begin j) (machine j == machine j) (eq-eqb (begin j) (begin j) refl) (eq-eqb (machine j) (machine j) refl)))
    | inr here ↦ omega (arith, here, l)
  ]
    where
      test : ℕ → Bool
      test = at_seat begin machine (begin j) (machine j)

  pub seats_there_are : (slots : ℕ) × (seat : ℕ → ℕ → ℕ) × AreSeats n begin machine slots seat
  seats_there_are = (
    greatest_below n begin + 1,
    some_seat n begin machine,
    record {
      seated = λ j l. let b = seat_found j l in let at = seat_passes (begin j) (machine j) b in apart (some_seat n begin machine (begin j) (machine j)) j b l at.0 at.1;
      from_seat = λ x m _ _ l. seat_passes x m l;
      below = λ j l. omega (arith, greatest_below-bound n begin j l);
      reached = λ x l. let (j, b, e) = greatest_below-reached n begin some in (j, b, omega (arith, l, e));
    },
  )

-- the least label of the segment of the slot that so many others follow
abbrev goes_on : ℕ → (ℕ → ℕ) → ℕ → ℕ → Bool
goes_on n label second least = ltb second n && ltb least (label second)

some_top : ℕ → ℕ → (ℕ → ℕ) → (ℕ → ℕ) → (ℕ → ℕ) → ℕ → ℕ
some_top n slots label first second zero = label (first (slots - 1))
some_top n slots label first second (suc d) =
    cond (goes_on n label (second (slots - 1 - suc d)) (some_top n slots label first second d)) (some_top n slots label first second d) (label (first (slots - 1 - suc d)))

pub tops_there_are : (n slots : ℕ) (label first second : ℕ → ℕ) → (top : ℕ → ℕ) × AreTops n slots label first second top
unfolding some_top
tops_there_are n slots label first second = (λ x. top (slots - 1 - x), λ x l. by x l (slots - 1 - x) refl)
  where
    top : ℕ → ℕ
    top d = some_top n slots label first second d

    by : (x : ℕ) → x < slots → (d : ℕ) → slots - 1 - x ≡ d → IsEnd n slots label first second (λ x. top (slots - 1 - x)) x ⊎ IsInner n slots label second (λ x. top (slots - 1 - x)) x
    by x l zero e = let last : slots - 1 ≡ x = omega (arith, l, e) in inl (ap top e ∙ ap (λ y. label (first y)) last, inl (omega (arith, l, e)))
    by x l (suc d) e = elim (cases_Bool (goes_on n label (second (slots - 1 - suc d)) (top d))) [
      | inl goes ↦
          let both = and_parts (ltb (second (slots - 1 - suc d)) n) (ltb (top d) (label (second (slots - 1 - suc d)))) goes in
          let there = ltb-true (second (slots - 1 - suc d)) n both.0 in
          let more_ = ltb-true (top d) (label (second (slots - 1 - suc d))) both.1 in
          inr (
            ap top e ∙ cond-true _ (top d) (label (first (slots - 1 - suc d))) goes ∙ ap top (sym after),
            omega (arith, e, l),
            subst (λ y. second y < n) here there,
            subst₂ (λ z y. top z < label (second y)) (sym after) here more_,
          )
      | inr stops ↦ inl (
        ap top e ∙ cond-false _ (top d) (label (first (slots - 1 - suc d))) stops ∙ ap (λ y. label (first y)) here,
        inr (elim (and_cases (ltb (second (slots - 1 - suc d)) n) (ltb (top d) (label (second (slots - 1 - suc d)))) stops) [
          | inl none ↦ inl (subst (λ y. n ≤ second y) here (ltb-false (second (slots - 1 - suc d)) n none))
          | inr less ↦ inr (subst₂ (λ z y. label (second y) ≤ top z) (sym after) here (ltb-false (top d) (label (second (slots - 1 - suc d))) less))
        ]),
      )
    ]
      where
        here : slots - 1 - suc d ≡ x
        here = omega (arith, e, l)

        after : slots - 1 - (x + 1) ≡ d
        after = omega (arith, e)
