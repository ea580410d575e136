-- What the table and the way back through it give is the table's order.
use Rattle.std.proofs.Common.{◌≡◌, ℕ, ◌+◌, ◌<◌, ◌≤◌, Bool, cond, List, ◌++◌, length, get_or, filter, reverse, All, AllPairs, IsPermutation, sum_by, sym, ap, ◌∙◌, arith}
use Rattle.std.specs.Prelude.{slice_index}
use Rattle.std.specs.List.{range_with_len}
use Rattle.std.proofs.lemmas.List.{take_all}
use Rattle.std.proofs.lemmas.List.Sorted.{IsPermutation-reverse, IsPermutation-sym, IsPermutation-trans}
use Rattle.msp_class.proofs.Sums.{OnceBelow, OnceBelow-from_permutation, length-OnceBelow, sum_by-OnceBelow, sum_by-filter, sum_by-mono, cond-le}
use Rattle.msp_instance.specs.declared.Instance.{Instance}
use Rattle.msp_instance.specs.Instance.{no_job}
use Rattle.msp_pieces.specs.BackToBack.{time_at}
use Rattle.msp_pieces.proofs.lists.Places.{sum_by-places}
use Rattle.msp_route.specs.Dates.{IsDueBefore}
use Rattle.msp_weighted.specs.Late.{time_of, total_time, EndInTime}
use Rattle.msp_weighted.specs.Values.{weight_at, first_value, values_of, IsFilled, IsChosen, IsTableOrder}
use Rattle.msp_weighted.proofs.ValueFacts.{values-least, values_start}

-- a filled table, and the moment of its greatest value
pub record IsRead (i : Instance) (order : List ℕ) (total moment : ℕ) (values flags : List ℕ) : Type 0 where
  pub is : total ≡ total_time i
  pub filled : IsFilled i order (total + 1) (length order) values flags
  pub inside : moment < total + 1
  pub best : (t : ℕ) → t < total + 1 → slice_index values t ≤ slice_index values moment

module _ (i : Instance) (order : List ℕ) (all : IsPermutation (range_with_len 0 (length i.jobs)) order) where
  once : OnceBelow (length i.jobs) order
  once = OnceBelow-from_permutation all

  pub order_count : length order ≡ length i.jobs
  order_count = length-OnceBelow once

  pub order_within : All (λ j. j < length i.jobs) order
  order_within = once.within

  -- together the jobs of the order take the total time
  order_time : sum_by (time_at i) order ≡ total_time i
  order_time = sum_by-OnceBelow (time_at i) once ∙ sym (sum_by-places time_of i.jobs no_job)

  module _ {total moment : ℕ} {values flags : List ℕ} (r : IsRead i order total moment values flags) where
    value : (t : ℕ) → t < total + 1 → slice_index values t ≡ values_of i order t
    value t l = r.filled.value t l ∙ ap (λ js. values_of i js t) (take_all (length order) order (omega arith))

    at_best : (t : ℕ) → t < total + 1 → values_of i order t ≤ values_of i order moment
    at_best t l = omega (arith, value t l, value moment r.inside, r.best t l)

    pub some_value : 0 < values_of i order moment
    some_value = omega (arith, values_start i order, at_best 0 (omega arith))

    most : (test : ℕ → Bool) → EndInTime i 0 (filter test order) → 1 + sum_by (weight_at i) (filter test order) ≤ values_of i order moment
    most test on =
        let least = values-least i test first_value order 0 0 (omega arith) on in
        let part : sum_by (time_at i) (filter test order) ≤ sum_by (time_at i) order =
        omega (
          arith,
          sum_by-filter (time_at i) test order,
          sum_by-mono (λ x. cond (test x) (time_at i x) 0) (time_at i) order (λ k d l. cond-le (test (get_or order k d)) (time_at i (get_or order k d))),
        ) in
        omega (arith, least, at_best (0 + sum_by (time_at i) (filter test order)) (omega (arith, part, order_time, r.is)))

    pub table_order : (on_time left late result : List ℕ) → AllPairs (IsDueBefore i) order → IsChosen i order (values_of i order moment) on_time left
        → IsPermutation left late → AllPairs (λ a b. a ≤ b) late → result ≡ on_time ++ late → IsTableOrder i result
    table_order on_time left late result sorted chosen moved by_number whole = record {
      by_date = order;
      on_time = on_time;
      left = reverse left;
      late = late;
      all = all;
      sorted = sorted;
      split = chosen.split;
      in_time = chosen.in_time;
      most = λ test on. omega (arith, most test on, chosen.weight);
      moved = IsPermutation-trans _ _ _ (IsPermutation-sym _ _ (IsPermutation-reverse left)) moved;
      by_number = by_number;
      whole = whole;
    }
