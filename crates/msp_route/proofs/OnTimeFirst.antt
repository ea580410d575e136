-- Jobs one after another, of which the first ones are on time: what the late ones weigh, and when no schedule has late jobs of less weight.
use Rattle.std.proofs.Common.{◌≡◌, ◌≢◌, ℕ, ◌+◌, ◌*◌, ◌<◌, ◌≤◌, Bool, true, false, cond, not, List, [], ◌∷◌, ◌++◌, length, get_or, filter, pos, nat_abs, ◌*ℤ◌, ◌≤ℤ◌, All, AllPairs}
use Rattle.std.proofs.Common.{sum_by, refl, sym, ap, ◌∙◌, subst, arith, le_trans}
use native.Mathlib.Nat.{mul-le-mul_left}
use Rattle.std.proofs.lemmas.List.Sums.{sum_by-cons, sum_by-append}
use Rattle.msp_class.specs.Sums.{total_below}
use Rattle.msp_class.proofs.IntegerRing.{≤ℤ_of_same, ≤ℤ_trans, one-*ℤ}
use Rattle.msp_class.proofs.Sums.{OnceBelow, OnceBelow-distinct, OnceBelow-contains, sum_by-OnceBelow, sum_by-none, sum_by-mono, cond-no, cond-le}
use Rattle.msp_instance.specs.declared.Instance.{Instance}
use Rattle.msp_pieces.specs.declared.Schedule.{Schedule}
use Rattle.msp_pieces.specs.Feasible.{Feasible}
use Rattle.msp_pieces.specs.Cost.{end_of, cost_of, Best}
use Rattle.msp_pieces.specs.BackToBack.{back_to_back, piece, time_at, schedule_in_order}
use Rattle.msp_pieces.proofs.lists.BackToBack.{back_to_back-last, end_in}
use Rattle.msp_pieces.proofs.lists.Parts.{All-front}
use Rattle.msp_pieces.proofs.feasible.OneMachine.{IsPlan-from_feasible, last_end-is}
use Rattle.msp_pieces.proofs.feasible.BackToBack.{piece_makes}
use Rattle.msp_pieces.proofs.costs.LateJobs.{due_at, is_late, not_late, OnTime, ends_on_time, on_time_back_to_back}
use Rattle.msp_route.proofs.Owed.{over_units}
use Rattle.msp_route.proofs.PlainJobs.{IsPlain}
use Rattle.msp_route.proofs.BackToBackAnswer.{timed}

-- late jobs and those on time weigh as much as all
late_and_on_time : (f : ℕ → Bool) (w : ℕ → ℕ) (xs : List ℕ) → sum_by (λ j. cond (f j) (w j) 0) xs + sum_by w (filter (λ j. not (f j)) xs) ≡ sum_by w xs
late_and_on_time f w [] = refl
late_and_on_time f w (x ∷ xs) = ap (λ n. n + sum_by w (cond (not (f x)) (x ∷ filter (λ j. not (f j)) xs) (filter (λ j. not (f j)) xs))) (sum_by-cons (λ j. cond (f j) (w j) 0) x xs)
    ∙ by (f x) (late_and_on_time f w xs) ∙ sym (sum_by-cons w x xs)
  where
    by : (b : Bool) → sum_by (λ j. cond (f j) (w j) 0) xs + sum_by w (filter (λ j. not (f j)) xs) ≡ sum_by w xs
        → (cond b (w x) 0 + sum_by (λ j. cond (f j) (w j) 0) xs) + sum_by w (cond (not b) (x ∷ filter (λ j. not (f j)) xs) (filter (λ j. not (f j)) xs)) ≡ w x + sum_by w xs
    by true e = omega (arith, e)
    by false e = omega (arith, e, sum_by-cons w x (filter (λ j. not (f j)) xs))

-- what the late jobs of a schedule weigh
abbrev pub late_weight : Instance → (ℕ → ℕ) → Schedule → ℕ
late_weight i w s = total_below (length i.jobs) (λ j. cond (is_late i s j) (w j) 0)

module _ (i : Instance) (h : IsPlain i) (w : ℕ → ℕ) (order first late : List ℕ) (whole : order ≡ first ++ late)
    (once : OnceBelow (length i.jobs) order) (in_time : OnTime (time_at i) (due_at i) 0 first) where
  abbrev s : Schedule
  s = schedule_in_order i order

  pub distinct : AllPairs (λ x y. x ≢ y) (first ++ late)
  distinct = subst (AllPairs (λ x y. x ≢ y)) whole (OnceBelow-distinct once)

  first_within : All (λ j. j < length i.jobs) first
  first_within = All-front (λ j. j < length i.jobs) first late (subst (All (λ j. j < length i.jobs)) whole once.within)

  pub ends : (j : ℕ) → j < length i.jobs → end_of s j ≡ pos (end_in (time_at i) 0 (first ++ late) j)
  ends j l =
      last_end-is (back_to_back piece (time_at i) 0 order) j (timed i h order once)
      ∙ ap pos (back_to_back-last piece (time_at i) piece_makes 0 order j (OnceBelow-distinct once) (OnceBelow-contains once j l) ∙ ap (λ js. end_in (time_at i) 0 js j) whole)

  -- what a late job weighs
  abbrev late_share : ℕ → ℕ
  late_share j = cond (is_late i s j) (w j) 0

  first_on_time : All (λ j. late_share j ≡ 0) first
  first_on_time k d l =
      let j = get_or first k d in
      let fits = ends_on_time (time_at i) (due_at i) 0 first late distinct in_time k d l in
      cond-no (w j) (not_late (pos 1 *ℤ due_at i j) (end_of s j) (≤ℤ_trans (≤ℤ_of_same (ends j (first_within k d l))) (≤ℤ_trans fits (≤ℤ_of_same (sym (one-*ℤ (due_at i j)))))))

  -- all late jobs are among the others
  pub late_are : late_weight i w s ≡ sum_by late_share late
  late_are = omega (arith, sum_by-OnceBelow late_share once, ap (sum_by late_share) whole, sum_by-append late_share first late, sum_by-none late_share first first_on_time)

  upper : late_weight i w s ≤ sum_by w late
  upper = omega (arith, late_are, sum_by-mono late_share w late (λ k d l. cond-le (is_late i s (get_or late k d)) (w (get_or late k d))))

  -- where no jobs that are on time weigh more than the first ones
  module _ (by_date : List ℕ) (dates : OnceBelow (length i.jobs) by_date) (sorted : AllPairs (λ a b. due_at i a ≤ℤ due_at i b) by_date)
      (most : (test : ℕ → Bool) → OnTime (time_at i) (due_at i) 0 (filter test by_date) → sum_by w (filter test by_date) ≤ sum_by w first) where
    pub lower : (t : Schedule) → Feasible i t → sum_by w late ≤ late_weight i w t
    lower t f = omega (
      arith,
      most (λ j. not (is_late i t j)) (on_time_back_to_back i h.machine t f by_date dates.within (OnceBelow-distinct dates) sorted),
      late_and_on_time (is_late i t) w by_date,
      sum_by-OnceBelow (λ j. cond (is_late i t j) (w j) 0) dates,
      sum_by-OnceBelow w dates,
      sum_by-OnceBelow w once,
      ap (sum_by w) whole,
      sum_by-append w first late,
    )

    pub on_time_first_is_best : Feasible i s → ((t : Schedule) (d : ℕ) → t.unit ≡ pos d → cost_of i t ≡ pos (d * late_weight i w t)) → Best i s
    on_time_first_is_best feasible cost = record {
      feasible = feasible;
      least = λ t f.
          let unit = (IsPlan-from_feasible i h.machine t f).unit in
          over_units _ _ t.unit _ _ (nat_abs t.unit) (cost s 1 refl) (cost t (nat_abs t.unit) unit) unit
          (omega (arith, mul-le-mul_left (nat_abs t.unit) (le_trans upper (lower t f))));
    }
