-- The jobs back to back in the table's order are a best schedule.
use Rattle.std.proofs.Common.{◌≡◌, ◌≢◌, ℕ, ◌+◌, ◌<◌, ◌≤◌, Bool, cond, List, [], ◌∷◌, ◌++◌, length, get_or, filter, pos, ◌*ℤ◌, ◌≤ℤ◌, ◌<ℤ◌, All, AllPairs}
use Rattle.std.proofs.Common.{IsPermutation, sum_by, sym, subst, arith}
use Rattle.std.specs.List.{range_with_len}
use Rattle.std.proofs.lemmas.List.Sorted.{IsPermutation-trans, IsPermutation-append_right}
use Rattle.msp_class.proofs.IntegerRing.{one-*ℤ}
use Rattle.msp_class.proofs.Sums.{OnceBelow, OnceBelow-from_permutation, cond-le}
use Rattle.msp_instance.specs.declared.Instance.{Instance}
use Rattle.msp_instance.specs.Instance.{no_job}
use Rattle.msp_pieces.specs.Feasible.{Feasible}
use Rattle.msp_pieces.specs.Cost.{end_of}
use Rattle.msp_pieces.specs.BackToBack.{time_at, schedule_in_order}
use Rattle.msp_pieces.proofs.lists.BackToBack.{end_in}
use Rattle.msp_pieces.proofs.costs.LateJobs.{due_at, is_late, OnTime}
use Rattle.msp_pieces.proofs.lists.DateOrder.{dates_rise}
use Rattle.msp_pieces.proofs.lists.Parts.{All-back, AllPairs-back}
use Rattle.msp_route.proofs.BackToBackAnswer.{IsBestRow, short_jobs, free_is_feasible}
use Rattle.msp_route.proofs.OnTimeFirst.{distinct, ends, late_are, lower, on_time_first_is_best}
use Rattle.msp_route.specs.Dates.{IsDueBefore}
use Rattle.msp_weighted.specs.Late.{EndInTime, EndLate, IsLateOrder}
use Rattle.msp_weighted.specs.Values.{weight_at, IsTableOrder}
use Rattle.msp_weighted.proofs.LateCost.{IsLateInstance, late_weight_cost}
use Rattle.msp_weighted.proofs.LateBehind.{same_each, costs_weight, is_after, EndLate-behind}
use Rattle.msp_weighted.proofs.SplitFacts.{split-permutation, split-pairs}

pub all_in_order : (i : Instance) (order : List ℕ) → IsTableOrder i order → IsPermutation (range_with_len 0 (length i.jobs)) order
all_in_order i order o =
    subst (IsPermutation (range_with_len 0 (length i.jobs))) (sym o.whole)
    (IsPermutation-trans _ _ _ o.all (IsPermutation-trans _ _ _ (split-permutation o.split) (IsPermutation-append_right o.on_time o.left o.late o.moved)))

-- ends in time, by the name that schedules have for it
to_OnTime : (i : Instance) (t : ℕ) (js : List ℕ) → EndInTime i t js → OnTime (time_at i) (due_at i) t js
to_OnTime i t [] h = tt
to_OnTime i t (j ∷ js) h = (h.0, to_OnTime i (t + time_at i j) js h.1)

from_OnTime : (i : Instance) (t : ℕ) (js : List ℕ) → OnTime (time_at i) (due_at i) t js → EndInTime i t js
from_OnTime i t [] h = tt
from_OnTime i t (j ∷ js) h = (h.0, from_OnTime i (t + time_at i j) js h.1)

module _ (i : Instance) (h : IsLateInstance i) (order : List ℕ) (o : IsTableOrder i order) where
  once : OnceBelow (length i.jobs) order
  once = OnceBelow-from_permutation (all_in_order i order o)

  dates : OnceBelow (length i.jobs) o.by_date
  dates = OnceBelow-from_permutation o.all

  sorted : AllPairs (λ a b. due_at i a ≤ℤ due_at i b) o.by_date
  sorted = dates_rise (λ a b. a < b) (due_at i) o.by_date o.sorted

  early : OnTime (time_at i) (due_at i) 0 o.on_time
  early = to_OnTime i 0 o.on_time o.in_time

  feasible : Feasible i (schedule_in_order i order)
  feasible = free_is_feasible i h.free.plain order once h.free.arcs

  most : (test : ℕ → Bool) → OnTime (time_at i) (due_at i) 0 (filter test o.by_date) → sum_by (weight_at i) (filter test o.by_date) ≤ sum_by (weight_at i) o.on_time
  most test h = o.most test (from_OnTime i 0 (filter test o.by_date) h)

  -- the weight of a late job
  abbrev late_share : ℕ → ℕ
  late_share j = cond (is_late i (schedule_in_order i order) j) (weight_at i j) 0

  distinct_jobs : AllPairs (λ x y. x ≢ y) (o.on_time ++ o.late)
  distinct_jobs = distinct i h.free.plain (weight_at i) order o.on_time o.late o.whole once early

  -- each of the others is late
  behind_within : All (λ j. j < length i.jobs) o.late
  behind_within = All-back (λ j. j < length i.jobs) o.on_time o.late (subst (All (λ j. j < length i.jobs)) o.whole once.within)

  others_weigh : All (λ j. late_share j ≡ weight_at i j) o.late
  others_weigh =
      same_each late_share (weight_at i) o.late (λ j. cond-le (is_late i (schedule_in_order i order) j) (weight_at i j))
      (omega (
        arith,
        lower i h.free.plain (weight_at i) order o.on_time o.late o.whole once early o.by_date dates sorted most (schedule_in_order i order) feasible,
        late_are i h.free.plain (weight_at i) order o.on_time o.late o.whole once early,
      ))

  too_late : EndLate i (sum_by (time_at i) o.on_time) o.late
  too_late = subst (λ n. EndLate i n o.late) (omega arith) (EndLate-behind i 0 o.on_time o.late distinct_jobs (λ k d l. past (get_or o.late k d) (behind_within k d l) (others_weigh k d l)))
    where
      past : (j : ℕ) → j < length i.jobs → late_share j ≡ weight_at i j → due_at i j <ℤ pos (end_in (time_at i) 0 (o.on_time ++ o.late) j)
      past j l w =
          let after = is_after (pos 1 *ℤ due_at i j) (end_of (schedule_in_order i order) j) (costs_weight (is_late i (schedule_in_order i order) j) (weight_at i j) (h.heavy j no_job l) w) in
          subst (λ e. due_at i j <ℤ e) (ends i h.free.plain (weight_at i) order o.on_time o.late o.whole once early j l)
          (subst (λ d. d <ℤ end_of (schedule_in_order i order) j) (one-*ℤ (due_at i j)) after)

  pub late_order : IsLateOrder i order
  late_order = record {
    on_time = o.on_time;
    late = o.late;
    all = all_in_order i order o;
    whole = o.whole;
    by_date = split-pairs (IsDueBefore i) o.split o.sorted;
    in_time = o.in_time;
    too_late = too_late;
    by_number = λ a b d l k. omega (arith, AllPairs-back (λ x y. x ≢ y) o.on_time o.late distinct_jobs a b d l k, o.by_number a b d l k);
  }

  pub late_row : IsBestRow i order
  late_row = record {
    short = short_jobs i h.free.plain order once;
    best = on_time_first_is_best i h.free.plain (weight_at i) order o.on_time o.late o.whole once early o.by_date dates sorted most feasible (λ t d. late_weight_cost i t d h.free.crit_is);
  }
