-- The prices of a least assignment of jobs to positions are together what a best schedule costs.
use Rattle.std.proofs.Common.{◌≡◌, ℕ, zero, suc, ◌+◌, ◌*◌, ◌/◌, ◌%◌, ◌<◌, ◌≤◌, inl, inr, List, [], ◌∷◌, length, map, ℤ, pos, nat_abs, ◌+ℤ◌, ◌*ℤ◌, ◌≤ℤ◌, IsPermutation, refl, sym}
use Rattle.std.proofs.Common.{ap, ap₂, subst, subst₂, ◌∙◌, arith}
use Rattle.std.specs.List.{range_with_len}
use Rattle.std.specs.List.Sorted.{IsNonDecreasingBy}
use Rattle.std.proofs.lemmas.Int.{ints}
use Rattle.std.proofs.Math.Nat.{mod-lt}
use Rattle.std.proofs.lemmas.Nat.{mul-le}
use Rattle.std.proofs.lemmas.List.{length-map, get_or-map}
use Rattle.std.proofs.lemmas.List.Elements.{All-map}
use Rattle.msp_class.proofs.IntegerRing.{pos-le, ≤ℤ_trans, *ℤ_comm, *ℤ-mono_nonneg, *ℤ-one, ≤ℤ_antisym}
use Rattle.msp_instance.specs.declared.Instance.{Instance}
use Rattle.msp_instance.specs.Instance.{need_at}
use Rattle.msp_instance.proofs.PathBitLemmas.{row_inside}
use Rattle.msp_pieces.specs.declared.Schedule.{Schedule}
use Rattle.msp_pieces.specs.Cost.{cost_of, Best}
use Rattle.msp_pieces.specs.Prices.{ArePrices, all_prices}
use Rattle.msp_pieces.proofs.bounds.PriceBounds.{law_of_prices}
use Rattle.msp_assign.specs.declared.assignment.Assignment.{Assignment}
use Rattle.msp_assign.specs.Prices.{IsAssigned, IsPriced, IsLeast, HasFreeColumn, column_of, price_at}
use Rattle.msp_assign.proofs.Least.{IsLeast-from_prices}
use Rattle.msp_assign.proofs.Lists.{contained_or_not, at-Contains}
use Rattle.msp_total.specs.declared.lay.Place.{Place}
use Rattle.msp_total.specs.declared.positions.Positions.{Positions}
use Rattle.msp_total.specs.declared.unrelated.Chosen.{Chosen}
use Rattle.msp_total.specs.Places.{no_place}
use Rattle.msp_total.specs.Positions.{time_in, position_cost}
use Rattle.msp_total.specs.Columns.{IsTableOf, IsPositioned, no_chosen, chosen_at, IsByColumn, IsPlaceOf, ArePlacesOf}
use Rattle.msp_total.specs.Priced.{ArePricesOfBest, TakePositions, AreSmallPrices, KeepsPricesSmall}
use Rattle.msp_total.proofs.ColumnSteps.{HasColumn, by_column, machine_inside}
use Rattle.msp_total.proofs.SortedLists.{sorted}
use Rattle.msp_total.proofs.UnrelatedFacts.{IsUnrelatedInstance}
use Rattle.msp_total.proofs.UnrelatedBest.{read as read_time, best as best_laid, upper as upper_laid, prices_are, prices_fit}
use Rattle.msp_total.proofs.LaidSchedule.{schedule_of}

module _ (i : Instance) (h : IsUnrelatedInstance i) (p : Positions) (table : IsTableOf i p) (a : Assignment) (placing : IsPositioned p a) where
  abbrev row : ℕ → ℤ
  row j = price_at a.row_price j

  abbrev position : ℕ → ℤ
  position c = price_at a.column_price c

  -- ---- a schedule that costs no more than all prices
  abbrev choice : ℕ → Chosen
  choice j = record { job = j; column = column_of a.column j }

  abbrev all : List Chosen
  all = map choice (range_with_len 0 (length a.column))

  jobs_of : (xs : List ℕ) → map (λ (c : Chosen). c.job) (map choice xs) ≡ xs
  jobs_of [] = refl
  jobs_of (x ∷ xs) = ap (λ l. x ∷ l) (jobs_of xs)

  in_order : (ys : List Chosen) × IsPermutation all ys × IsNonDecreasingBy (λ c. c.column) ys
  in_order = sorted (λ (c : Chosen). c.column) all

  abbrev chosen : List Chosen
  chosen = in_order.0

  chosen_sorted : IsByColumn (length a.column) a.column chosen
  chosen_sorted = by_column a.column all chosen (jobs_of (range_with_len 0 (length a.column)))
      (All-map (HasColumn a.column) choice (range_with_len 0 (length a.column)) (λ k d l. refl)) in_order.1 in_order.2

  abbrev place : Chosen → Place
  place c = record { job = c.job; machine = c.column / p.jobs; length = time_in p.machines p.times c.job (c.column / p.jobs) }

  abbrev places : List Place
  places = map place chosen

  placed : ArePlacesOf p chosen places
  placed = record {
    count = length-map chosen place;
    placed = λ r l. subst (IsPlaceOf p (chosen_at chosen r)) (sym (get_or-map place chosen r no_chosen no_place (omega (arith, l, length-map chosen place)))) (refl, refl, refl);
  }

  abbrev s : Schedule
  s = schedule_of 1 places

  laid_best : Best i s
  laid_best = best_laid i h p table a placing a.column refl chosen chosen chosen_sorted refl places placed

  abbrev position_of : ℕ → ℕ → ℤ
  position_of m k = position (m * p.jobs + k)

  cheap : cost_of i s ≤ℤ all_prices i row position_of
  cheap = subst (λ x. cost_of i s ≤ℤ x) (sym (prices_are i h p table a placing)) (upper_laid i h p table a placing a.column refl chosen chosen chosen_sorted refl places placed)

  -- a best schedule costs as much
  best_is : (t : Schedule) → Best i t → cost_of i t ≡ t.unit *ℤ all_prices i row position_of
  best_is t b = ≤ℤ_antisym above (law_of_prices i t row position_of h.kind h.cut h.crit b.feasible (prices_fit i h p table a placing))
    where
      above : cost_of i t ≤ℤ (t.unit *ℤ all_prices i row position_of)
      above = ≤ℤ_trans (subst₂ (λ x y. x ≤ℤ y) (*ℤ-one (cost_of i t)) (*ℤ_comm (cost_of i s) t.unit)
          (b.least s laid_best.feasible)) (*ℤ-mono_nonneg t.unit (omega (arith, ints, b.feasible.unit)) cheap)

  pub ArePricesOfBest-positioned : ArePricesOfBest i a
  ArePricesOfBest-positioned = record {
    rows = placing.priced.row_prices ∙ table.jobs;
    columns = placing.priced.column_prices ∙ ap₂ (λ x y. x * y) table.jobs table.machines;
    fit = subst (λ x. ArePrices i row (λ m k. position (m * x + k))) table.jobs (prices_fit i h p table a placing);
    free = subst₂ (λ x y. HasFreeColumn (x * y) a) table.jobs table.machines placing.zero;
    best = λ t b. subst (λ x. cost_of i t ≡ t.unit *ℤ all_prices i row (λ m k. position (m * x + k))) table.jobs (best_is t b);
  }

  -- ---- each job has a position of its own
  abbrev at : ℕ → ℕ
  at j = column_of a.column j

  own_inside : (j : ℕ) → j < p.jobs → at j < p.jobs * p.machines
  own_inside j l = placing.assigned.inside j 0 (omega (arith, l, placing.assigned.all))

  abbrev cost_there : ℕ → ℕ → ℤ
  cost_there j c = pos ((c % p.jobs + 1) * (need_at i j (c / p.jobs)).time)

  same_cost : (j c : ℕ) → j < p.jobs → c < p.jobs * p.machines → position_cost p.jobs p.machines p.times j c ≡ cost_there j c
  same_cost j c l k = ap (λ x. pos ((c % p.jobs + 1) * x)) (read_time i h p table j (c / p.jobs) (omega (arith, l, table.jobs)) (omega (arith, machine_inside p.jobs p.machines c k, table.machines)))

  priced : IsPriced p.jobs (p.jobs * p.machines) cost_there a
  priced = record {
    row_prices = placing.priced.row_prices;
    column_prices = placing.priced.column_prices;
    at_most = λ j c l k. subst (λ x. (row j +ℤ position c) ≤ℤ x) (same_cost j c l k) (placing.priced.at_most j c l k);
    exact = λ j l. placing.priced.exact j l ∙ same_cost j (at j) l (own_inside j l);
    low = placing.priced.low;
    unused = placing.priced.unused;
  }

  pub TakePositions-positioned : TakePositions i a
  TakePositions-positioned = record {
    assigned = subst₂ (λ x y. IsAssigned x (x * y) a.column) table.jobs table.machines placing.assigned;
    exact = λ j l. subst (λ x. row j +ℤ position (at j) ≡ pos ((at j % x + 1) * (need_at i j (at j / x)).time)) table.jobs (priced.exact j (omega (arith, l, table.jobs)));
    unused = λ m k l b. placing.priced.unused (m * length i.jobs + k)
        (subst₂ (λ x y. m * length i.jobs + k < x * y) (sym table.jobs) (sym table.machines) (omega (arith, row_inside (length i.jobs) i.machines m l, b)));
    least = subst₂ (λ x y. IsLeast x (x * y) (λ j c. pos ((c % x + 1) * (need_at i j (c / x)).time)) a.column) table.jobs table.machines
        (IsLeast-from_prices p.jobs (p.jobs * p.machines) cost_there a placing.assigned priced);
  }

  -- ---- how large they are
  module _ (most : ℕ) (short : (j m : ℕ) → j < length i.jobs → m < i.machines → (need_at i j m).time ≤ most) where
    some : 1 ≤ p.jobs
    some = by (p.jobs) (placing.zero.0) placing.zero.1
      where
        by : (n c : ℕ) → c < n * p.machines → 1 ≤ n
        by zero c l = omega (arith, l)
        by (suc n) c l = omega arith

    cost_low : (j c : ℕ) → pos 0 ≤ℤ position_cost p.jobs p.machines p.times j c
    cost_low j c = omega (arith, ints)

    cost_small : (j c : ℕ) → j < p.jobs → c < p.jobs * p.machines → position_cost p.jobs p.machines p.times j c ≤ℤ pos (p.jobs * most)
    cost_small j c l k = pos-le (mul-le (c % p.jobs + 1) (time_in p.machines p.times j (c / p.jobs)) p.jobs most (omega (arith, mod-lt c some)) time)
      where
        on : c / p.jobs < p.machines
        on = machine_inside p.jobs p.machines c k

        time : time_in p.machines p.times j (c / p.jobs) ≤ most
        time = omega (
          arith,
          read_time i h p table j (c / p.jobs) (omega (arith, l, table.jobs)) (omega (arith, on, table.machines)),
          short j (c / p.jobs) (omega (arith, l, table.jobs)) (omega (arith, on, table.machines)),
        )

    row_within : (j : ℕ) → j < p.jobs → (pos 0 ≤ℤ row j) × (row j ≤ℤ pos (p.jobs * most))
    row_within j l = by (row j) (position (column_of a.column j)) (position_cost p.jobs p.machines p.times j (column_of a.column j))
        (position placing.zero.0) (position_cost p.jobs p.machines p.times j placing.zero.0) (pos (p.jobs * most))
        (placing.priced.exact j l) (placing.priced.low (column_of a.column j) (own_inside j l)) (cost_low j (column_of a.column j))
        (placing.priced.at_most j placing.zero.0 l placing.zero.1) placing.zero.2 (cost_small j placing.zero.0 l placing.zero.1)
      where
        by : (u v x w y z : ℤ) → u +ℤ v ≡ x → v ≤ℤ pos 0 → pos 0 ≤ℤ x → (u +ℤ w) ≤ℤ y → w ≡ pos 0 → y ≤ℤ z → (pos 0 ≤ℤ u) × (u ≤ℤ z)
        by u v x w y z e n q f g k = (omega (arith, ints), omega (arith, ints))

    row_small : (j : ℕ) → j < p.jobs → nat_abs (row j) ≤ p.jobs * most
    row_small j l = omega (arith, ints, (row_within j l).0, (row_within j l).1)

    column_small : (c : ℕ) → c < p.jobs * p.machines → nat_abs (position c) ≤ p.jobs * most
    column_small c l = elim (contained_or_not a.column c) [
      | inr n ↦ omega (arith, ap nat_abs (placing.priced.unused c l n))
      | inl m ↦
          let w = at-Contains a.column c m in
          let j : w.0 < p.jobs = omega (arith, w.1, placing.assigned.all) in
          by (row w.0) (position c) (position_cost p.jobs p.machines p.times w.0 c) (p.jobs * most)
          (subst (λ x. row w.0 +ℤ position x ≡ position_cost p.jobs p.machines p.times w.0 x) w.2 (placing.priced.exact w.0 j)) (cost_low w.0 c) (placing.priced.low c l) (row_within w.0 j).1
    ]
      where
        by : (u v x : ℤ) (n : ℕ) → u +ℤ v ≡ x → pos 0 ≤ℤ x → v ≤ℤ pos 0 → u ≤ℤ pos n → nat_abs v ≤ n
        by u v x n e q k b = omega (arith, ints)

    AreSmallPrices-positioned : AreSmallPrices i a most
    AreSmallPrices-positioned = record {
      rows = λ j l. subst (λ x. nat_abs (row j) ≤ x * most) table.jobs (row_small j (omega (arith, l, table.jobs)));
      columns = λ c l. subst (λ x. nat_abs (position c) ≤ x * most) table.jobs (column_small c (subst₂ (λ x y. c < x * y) (sym table.jobs) (sym table.machines) l));
    }

  pub KeepsPricesSmall-positioned : KeepsPricesSmall i a
  KeepsPricesSmall-positioned most short = AreSmallPrices-positioned most short
