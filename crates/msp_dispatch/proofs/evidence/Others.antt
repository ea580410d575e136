-- Segments, a block and prices of best cost, as certificates.
use Rattle.std.proofs.Common.{◌≡◌, ◌≢◌, ℕ, zero, suc, ◌+◌, ◌*◌, ◌-◌, ◌/◌, ◌<◌, ◌≤◌, List, length, get_or, map, All, AllPairs, sum_by, ℤ, pos, negsuc, unsigned_abs, refl, sym, ap, subst, arith}
use Rattle.std.specs.List.{flat_map, range_with_len}
use Rattle.std.proofs.Math.Nat.{div-le_self}
use Rattle.std.proofs.lemmas.Int.{ints}
use Rattle.std.proofs.lemmas.Nat.{mul-le}
use Rattle.std.proofs.lemmas.List.{get_or_default}
use Rattle.std.proofs.lemmas.List.Concat.{length-flat_map}
use Rattle.msp_class.specs.declared.sizes.TheConstants.{MOST_JOBS, MOST_MACHINES, GREATEST}
use Rattle.msp_class.specs.declared.environments.EnvKind.TheVariants.{Unrelated}
use Rattle.msp_class.specs.Env.{kind_of}
use Rattle.msp_class.specs.Sums.{int_total_below}
use Rattle.msp_class.proofs.Sums.{count_by-distinct, sum_by-mono, sum_by-constant, sum_by-add}
use Rattle.msp_instance.specs.declared.Instance.{Instance}
use Rattle.msp_instance.specs.Instance.{no_job, no_need, need_at}
use Rattle.msp_instance.specs.Conditions.{InClass, LiesWithin, HasShape}
use Rattle.msp_instance.proofs.ListingLemmas.{length-once}
use Rattle.msp_instance.proofs.PathBitLemmas.{row_inside}
use Rattle.msp_pieces.specs.declared.Solution.{Solution}
use Rattle.msp_pieces.specs.Fraction.{IsOver}
use Rattle.msp_pieces.specs.Cost.{IsBest}
use Rattle.msp_pieces.specs.Blocks.{IsBlock, IsBlockValue, total_time}
use Rattle.msp_pieces.specs.Prices.{all_prices, prices_of_jobs, prices_on_machine}
use Rattle.msp_pieces.specs.Segments.{AreSegments, segments_bound}
use Rattle.msp_pieces.specs.Feasible.{total}
use Rattle.msp_pieces.proofs.bounds.PriceBounds.{total_over_range}
use Rattle.msp_assign.specs.Prices.{price_at}
use Rattle.msp_assign.specs.declared.assignment.Assignment.{Assignment}
use Rattle.msp_cert.specs.declared.Proof.{Proof}
use Rattle.msp_cert.specs.declared.Proof.TheVariants.{Segments, Block, Prices}
use Rattle.msp_cert.specs.Certificates.{HoldsFor, IsValue}
use Rattle.msp_cert.specs.declared.limits.TheConstants.{GREATEST_PRICE, MOST_ENTRIES}
use Rattle.msp_cert.specs.Worth.{greatest_value}
use Rattle.msp_cert.proofs.BlockFacts.{own_cost_within}
use Rattle.msp_cert.proofs.Facts.{small_needs}
use Rattle.msp_cert.proofs.SegmentFacts.{flat_inside}
use Rattle.msp_blocks.specs.Blocks.{blocks_class, greatest_head, IsBestCost}
use Rattle.msp_lexical.specs.Lexical.{lexical_class, IsLeastCost}
use Rattle.msp_total.specs.Classes.{unrelated_class}
use Rattle.msp_total.specs.Priced.{position_price, ArePricesOfBest, AreSmallPrices, KeepsPricesSmall}
use Rattle.msp_dispatch.proofs.evidence.Found.{IsShort}
use Rattle.msp_dispatch.proofs.evidence.Fractions.{best_value, value_of_best}
use Rattle.msp_dispatch.proofs.evidence.Sizes.{work_short}

-- The evidence of the proof holds with a small whole value, which the solution costs, and the proof keeps the limits of texts.
pub record IsWholeValue (i : Instance) (s : Solution) (p : Proof) : Type 0 where
  pub value : ℤ
  pub cost : IsOver s.cost value (pos 1)
  pub holds : HoldsFor i p
  pub is : IsValue i p value 1
  pub small : LiesWithin greatest_value value
  pub short : IsShort p

-- numbers of jobs, none twice, are at most MOST_JOBS
few_apart : (i : Instance) (jobs : List ℕ) → InClass i → All (λ j. j < length i.jobs) jobs → AllPairs (λ j k. j ≢ k) jobs → length jobs ≤ MOST_JOBS
few_apart i jobs c inside apart = omega (arith, length-once (length i.jobs) jobs inside (λ k. count_by-distinct jobs k apart), c.conditions.few)

-- ---- segments
module _ (i : Instance) (c : InClass i) (class : i.class ≡ lexical_class)
    (s : Solution) (best : IsBest i s) (lists : List (List ℕ)) (are : AreSegments i lists) (least : IsLeastCost i (segments_bound i lists)) where
  jobs_few : sum_by length lists ≤ MOST_JOBS
  jobs_few = omega (arith, few_apart i (flat_map (λ js. js) lists) c (flat_inside (length i.jobs) lists are.inside) are.apart, length-flat_map (λ (js : List ℕ). js) lists)

  lists_few : length lists ≤ sum_by length lists
  lists_few = omega (arith, sum_by-mono (λ (js : List ℕ). 1) length lists are.some, sum_by-constant 1 lists)

  bound_small : segments_bound i lists ≤ MOST_MACHINES * MOST_JOBS
  bound_small =
      let each : segments_bound i lists ≤ sum_by (λ js. length js + (MOST_MACHINES - 1)) lists =
      sum_by-mono (λ (js : List ℕ). (length js + (i.machines - 1)) / i.machines) (λ js. length js + (MOST_MACHINES - 1))
      lists (λ k d l. let part = div-le_self (length (get_or lists k d) + (i.machines - 1)) i.machines in omega (arith, part, c.conditions.machines.1)) in
      omega (arith, each, sum_by-add length (λ (js : List ℕ). MOST_MACHINES - 1) lists, sum_by-constant (MOST_MACHINES - 1) lists, jobs_few, lists_few)

  pub IsWholeValue-segments : IsWholeValue i s (Segments lists)
  IsWholeValue-segments = record {
    value = pos (segments_bound i lists);
    cost = value_of_best i s least.0 (pos (segments_bound i lists)) best least.1 least.2;
    holds = record {
      units = record { makespan = ap (λ x. x.crit) class; identical = ap (λ x. kind_of x.env) class; uncut = ap (λ x. x.cut) class; units = ap (λ x. x.times) class };
      segments = are;
    };
    is = (refl, refl);
    small = (omega (arith, ints), omega (arith, ints, bound_small));
    short = record { limits = record { few = omega (arith, jobs_few, lists_few); small = tt }; levels = tt };
  }

-- ---- a block
module _ (i : Instance) (c : InClass i) (class : i.class ≡ blocks_class)
    (s : Solution) (best : IsBest i s) (head jobs : List ℕ) (block : IsBlock i head jobs) (value : ℤ) (is : IsBlockValue i head jobs value)
    (costs : IsBestCost i value) (early : All (λ h. h ≤ greatest_head) head) where
  few_jobs : length jobs ≤ MOST_JOBS
  few_jobs = few_apart i jobs c block.inside block.apart

  begin_early : is.begin ≤ greatest_head
  begin_early =
      let (k, j, l, at, e) = is.first in
      let inside : j < length i.jobs = subst (λ x. x < length i.jobs) at (block.inside k j l) in
      omega (arith, e, early j 0 (omega (arith, inside, block.each)))

  value_small : LiesWithin greatest_value value
  value_small =
      let (k, j, l, at, reached) = is.reached in
      own_cost_within i j (is.begin + total_time i jobs) value c
      (ap (λ x. x.crit) class) (subst (λ x. x < length i.jobs) at (block.inside k j l)) (omega (arith, begin_early, work_short i c jobs few_jobs)) reached.1

  pub IsWholeValue-block : IsWholeValue i s (Block head jobs)
  IsWholeValue-block = record {
    value = value;
    cost = best_value i s value best (costs s.schedule best.best);
    holds = record { single = ap (λ x. x.env) class; greatest = ap (λ x. x.crit) class; block = block };
    is = (is, refl);
    small = value_small;
    short = record { limits = record { few = omega (arith, few_jobs, block.each, c.conditions.few); small = λ k d l. omega (arith, early k d l) }; levels = tt };
  }

-- ---- prices
-- The most that the prices of as many positions as there are jobs add up to, in size.
abbrev greatest_prices : ℕ
greatest_prices = MOST_JOBS * (MOST_JOBS * GREATEST)

within_size : (x : ℤ) (b : ℕ) → unsigned_abs x ≤ b → LiesWithin b x
within_size (pos n) b l = (omega (arith, ints), omega (arith, ints, l))
within_size (negsuc n) b l = (omega (arith, ints, l), omega (arith, ints))

sum_within : (f : ℕ → ℤ) (b n : ℕ) → ((k : ℕ) → k < n → LiesWithin b (f k)) → LiesWithin (n * b) (int_total_below n f)
sum_within f b zero h = (omega (arith, ints), omega (arith, ints))
sum_within f b (suc n) h =
    let rest = sum_within f b n (λ k l. h k (omega (arith, l))) in
    let last = h n (omega arith) in
    let e : suc n * b ≡ n * b + b = omega arith in
    (omega (arith, ints, rest.0, last.0, e), omega (arith, ints, rest.1, last.1, e))

module _ (i : Instance) (c : InClass i) (class : i.class ≡ unrelated_class) (s : Solution) (best : IsBest i s) (a : Assignment) (are : ArePricesOfBest i a) (keeps : KeepsPricesSmall i a) where
  times_short : (j m : ℕ) → j < length i.jobs → m < i.machines → (need_at i j m).time ≤ GREATEST
  times_short j m l b =
      let shape : HasShape Unrelated i.class.env i.machines (get_or i.jobs j no_job).needs =
      subst (λ k. HasShape k i.class.env i.machines (get_or i.jobs j no_job).needs) (ap (λ x. kind_of x.env) class) (c.conditions.jobs j no_job l).needs.shape in
      (small_needs i c j no_job l).short m no_need (omega (arith, shape.0, b))

  small : AreSmallPrices i a GREATEST
  small = keeps GREATEST times_short

  row_within : (j : ℕ) → j < length i.jobs → LiesWithin (MOST_JOBS * GREATEST) (price_at a.row_price j)
  row_within j l = within_size (price_at a.row_price j) (MOST_JOBS * GREATEST) (omega (arith, small.rows j l, c.conditions.few))

  column_within : (k : ℕ) → k < length i.jobs * i.machines → LiesWithin (MOST_JOBS * GREATEST) (price_at a.column_price k)
  column_within k l = within_size (price_at a.column_price k) (MOST_JOBS * GREATEST) (omega (arith, small.columns k l, c.conditions.few))

  rows_together : LiesWithin (length i.jobs * (MOST_JOBS * GREATEST)) (prices_of_jobs i (price_at a.row_price))
  rows_together = subst (LiesWithin (length i.jobs * (MOST_JOBS * GREATEST)))
      (sym (total_over_range (length i.jobs) (price_at a.row_price))) (sum_within (price_at a.row_price) (MOST_JOBS * GREATEST) (length i.jobs) row_within)

  machine_together : (m : ℕ) → m < i.machines → LiesWithin greatest_prices (prices_on_machine i (position_price i a) m)
  machine_together m l =
      let w : LiesWithin (length i.jobs * (MOST_JOBS * GREATEST)) (prices_on_machine i (position_price i a) m) =
      subst (LiesWithin (length i.jobs * (MOST_JOBS * GREATEST))) (sym (total_over_range (length i.jobs) (position_price i a m)))
      (sum_within (position_price i a m) (MOST_JOBS * GREATEST)
      (length i.jobs) (λ k b. let r = row_inside (length i.jobs) i.machines m l in column_within (m * length i.jobs + k) (omega (arith, r, b)))) in
      (omega (arith, ints, w.0, c.conditions.few), omega (arith, ints, w.1, c.conditions.few))

  columns_together : LiesWithin (i.machines * greatest_prices) (total (map (prices_on_machine i (position_price i a)) (range_with_len 0 i.machines)))
  columns_together = subst (LiesWithin (i.machines * greatest_prices)) (sym (total_over_range i.machines (prices_on_machine i (position_price i a))))
      (sum_within (prices_on_machine i (position_price i a)) greatest_prices i.machines machine_together)

  prices_within : LiesWithin greatest_value (all_prices i (price_at a.row_price) (position_price i a))
  prices_within =
      let r = rows_together in
      let k = columns_together in
      (omega (arith, ints, r.0, k.0, c.conditions.few, c.conditions.machines.1), omega (arith, ints, r.1, k.1, c.conditions.few, c.conditions.machines.1))

  widen : (x : ℤ) → LiesWithin (MOST_JOBS * GREATEST) x → LiesWithin GREATEST_PRICE x
  widen x h = (omega (arith, ints, h.0), omega (arith, ints, h.1))

  entries_few : length a.row_price + length a.column_price ≤ MOST_ENTRIES
  entries_few =
      let p : length i.jobs * i.machines ≤ MOST_JOBS * MOST_MACHINES = mul-le (length i.jobs) i.machines MOST_JOBS MOST_MACHINES c.conditions.few c.conditions.machines.1 in
      omega (arith, p, are.rows, are.columns, c.conditions.few)

  pub IsWholeValue-prices : IsWholeValue i s (Prices a.row_price a.column_price)
  IsWholeValue-prices = record {
    value = all_prices i (price_at a.row_price) (position_price i a);
    cost = best_value i s _ best (are.best s.schedule best.best);
    holds = record {
      sum = ap (λ x. x.crit) class;
      unrelated = ap (λ x. kind_of x.env) class;
      uncut = ap (λ x. x.cut) class;
      rows = are.rows;
      columns = are.columns;
      prices = are.fit;
    };
    is = (refl, refl);
    small = prices_within;
    short = record {
      limits = record {
        few = entries_few;
        small = (
          λ k d l. subst (LiesWithin GREATEST_PRICE) (get_or_default a.row_price k (pos 0) d l) (widen _ (row_within k (omega (arith, l, are.rows)))),
          λ k d l. subst (LiesWithin GREATEST_PRICE) (get_or_default a.column_price k (pos 0) d l) (widen _ (column_within k (omega (arith, l, are.columns)))),
        );
      };
      levels = tt;
    };
  }
