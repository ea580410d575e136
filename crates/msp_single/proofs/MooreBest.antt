-- The jobs back to back in Moore's order are a best schedule.
use Rattle.std.proofs.Common.{◌≡◌, ℕ, ◌<◌, ◌≤◌, Bool, List, length, filter, ◌≤ℤ◌, AllPairs, IsPermutation, sum_by, sym, subst, arith}
use Rattle.std.specs.List.{range_with_len}
use Rattle.std.proofs.lemmas.List.Sorted.{IsPermutation-trans, IsPermutation-append_right}
use Rattle.msp_class.specs.declared.class.Crit.TheVariants.{SumU}
use Rattle.msp_class.proofs.Sums.{OnceBelow, OnceBelow-from_permutation, sum_by-constant}
use Rattle.msp_instance.specs.declared.Instance.{Instance}
use Rattle.msp_instance.specs.Conditions.{Inner}
use Rattle.msp_pieces.specs.BackToBack.{time_at}
use Rattle.msp_pieces.proofs.lists.DateOrder.{dates_rise}
use Rattle.msp_pieces.proofs.costs.LateJobs.{due_at, late_cost, OnTime}
use Rattle.msp_single.specs.Moore.{moore_class, IsMooreOrder}
use Rattle.msp_route.proofs.PlainJobs.{IsPlainFree, IsPlainFree-from}
use Rattle.msp_route.proofs.BackToBackAnswer.{IsBestRow, short_jobs, free_is_feasible}
use Rattle.msp_route.proofs.OnTimeFirst.{on_time_first_is_best}
use Rattle.msp_single.proofs.MooreChoice.{choice-permutation, choice-on_time, choice-most}

pub all_in_order : (i : Instance) (order : List ℕ) → IsMooreOrder i order → IsPermutation (range_with_len 0 (length i.jobs)) order
all_in_order i order o =
    subst (IsPermutation (range_with_len 0 (length i.jobs))) (sym o.whole)
    (IsPermutation-trans _ _ _ o.all (IsPermutation-trans _ _ _ (choice-permutation (time_at i) (λ j. j) (due_at i) o.choice) (IsPermutation-append_right o.accepted o.dropped o.late o.moved)))

module _ (i : Instance) (h : IsPlainFree i SumU) (order : List ℕ) (o : IsMooreOrder i order) where
  once : OnceBelow (length i.jobs) order
  once = OnceBelow-from_permutation (all_in_order i order o)

  sorted : AllPairs (λ a b. due_at i a ≤ℤ due_at i b) o.by_date
  sorted = dates_rise (λ a b. a < b) (due_at i) o.by_date o.sorted

  most : (test : ℕ → Bool) → OnTime (time_at i) (due_at i) 0 (filter test o.by_date) → sum_by (λ _. 1) (filter test o.by_date) ≤ sum_by (λ _. 1) o.accepted
  most test early = omega (arith, choice-most (time_at i) (λ j. j) (due_at i) test o.choice early, sum_by-constant 1 (filter test o.by_date), sum_by-constant 1 o.accepted)

  moore_row : IsBestRow i order
  moore_row = record {
    short = short_jobs i h.plain order once;
    best = on_time_first_is_best i h.plain (λ _. 1) order o.accepted o.late o.whole once (choice-on_time (time_at i) (λ j. j) (due_at i) o.choice sorted)
        o.by_date (OnceBelow-from_permutation o.all) sorted most (free_is_feasible i h.plain order once h.arcs) (λ t d. late_cost i t d h.crit_is);
  }

pub is_moore_instance : (i : Instance) → i.class ≡ moore_class → Inner i → IsPlainFree i SumU
is_moore_instance i = IsPlainFree-from i SumU

pub IsBestRow-moore : (i : Instance) → i.class ≡ moore_class → Inner i → (order : List ℕ) → IsMooreOrder i order → IsBestRow i order
IsBestRow-moore i class inner order o = moore_row i (is_moore_instance i class inner) order o
