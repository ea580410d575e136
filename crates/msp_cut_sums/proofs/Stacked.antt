-- Jobs by falling time, each behind the job m places behind it: the schedule, and what it costs.
use Rattle.std.proofs.Common.{◌≡◌, ℕ, zero, suc, ◌+◌, ◌*◌, ◌-◌, ◌/◌, ◌%◌, ◌<◌, ◌≤◌, inl, inr, List, length, map, All, nat_abs, refl, sym, ap, subst, ◌∙◌, add_assoc, add_comm, one-mul, arith}
use Rattle.std.proofs.Math.ListN.{get_or-eq_default}
use Rattle.std.proofs.lemmas.Bool.{cases_lt}
use Rattle.std.proofs.lemmas.List.{length-map, get_or-map}
use Rattle.msp_class.specs.declared.sizes.TheConstants.{MOST_JOBS, GREATEST}
use Rattle.msp_class.specs.Sums.{total_below}
use Rattle.msp_class.proofs.Quotients.{block_and_rest, rest_small}
use Rattle.msp_class.proofs.Sums.{total_below-same, total_below-add, total_below-none, total_below-split}
use Rattle.msp_instance.specs.declared.Instance.{Instance}
use Rattle.msp_pieces.specs.Feasible.{HasOperation, MayRun}
use Rattle.msp_pieces.specs.BackToBack.{time_at}
use Rattle.msp_pieces.proofs.bounds.LastEnds.{law_of_last_ends}
use Rattle.msp_cut_sums.specs.Sums.{at, in_blocks, IsByFalling, IsCutSumCost}
use Rattle.msp_cut_sums.specs.Schedules.{AreEnds, IsStackedSchedule}
use Rattle.msp_cut_sums.specs.Pieces.{stacked}
use Rattle.msp_cut_sums.proofs.Falling.{order_once, order_many, order_inside, order_falls, order_distinct}
use Rattle.msp_cut_sums.proofs.InBlocks.{in_blocks-step, times_bound}
use Rattle.msp_cut_sums.proofs.Instances.{IsSumInstance, no_route, sum_operations, sum_times}
use Rattle.msp_route.proofs.Placed.{Places, ArePlaced, placed_is_feasible, placed_is_within, placed_is_answer, placed_ends}
use Rattle.msp_cut_sums.proofs.Rests.{blocks_rise}
use Rattle.msp_cut_sums.proofs.Schedules.{placed_uncut}
use Rattle.msp_pieces.proofs.bounds.Room.{end_at}
use Rattle.msp_cut_sums.proofs.Room.{room_in_order}
use Rattle.msp_cut_sums.proofs.Summed.{IsSumOf-ones, IsSolved, answered, over_one}

-- ---- such ends add up by blocks
ends_by_blocks : (fuel n m : ℕ) (t e : ℕ → ℕ) → 1 ≤ m → n ≤ fuel → ((k : ℕ) → k < n → e k ≡ t k + e (k + m)) → ((k : ℕ) → n ≤ k → e k ≡ 0) → total_below n e ≡ in_blocks m n t
ends_by_blocks zero zero m t e some short each none = refl
ends_by_blocks zero (suc n) m t e some short each none = absurd (omega (arith, short))
ends_by_blocks (suc fuel) n m t e some short each none =
    total_below-same n e (λ k. t k + e (k + m)) each ∙ total_below-add n t (λ k. e (k + m))
    ∙ ap (λ x. total_below n t + x) (later ∙ ends_by_blocks fuel (n - m) m (λ k. t (m + k)) (λ k. e (m + k)) some (omega (arith, short, some))
    (λ k l. each (m + k) (omega (arith, l)) ∙ ap (λ x. t (m + k) + e x) (add_assoc m k m)) (λ k l. none (m + k) (omega (arith, l))))
    ∙ sym (in_blocks-step m n t some)
  where
    later : total_below n (λ k. e (k + m)) ≡ total_below (n - m) (λ k. e (m + k))
    later =
        let whole : n ≡ n - m + (n - (n - m)) = omega arith in
        let rest = total_below-none (n - (n - m)) (λ k. e (n - m + k + m)) (λ k l. none (n - m + k + m) (omega arith)) in
        let same = total_below-same (n - m) (λ k. e (k + m)) (λ k. e (m + k)) (λ k l. ap e (add_comm k m)) in
        omega (arith, ap (λ x. total_below x (λ k. e (k + m))) whole, total_below-split (n - m) (n - (n - m)) (λ k. e (k + m)), rest, same)

module _ (i : Instance) (h : IsSumInstance i) (order : List ℕ) (sorted : IsByFalling (length i.jobs) (time_at i) order)
    (ends : List ℕ) (are : AreEnds i.machines (map (time_at i) order) ends) (small : All (λ e. e ≤ MOST_JOBS * GREATEST) ends) where
  abbrev n : ℕ
  n = length i.jobs

  abbrev m : ℕ
  m = i.machines

  many : length order ≡ n
  many = order_many n (time_at i) order sorted

  ends_many : length ends ≡ n
  ends_many = are.many ∙ length-map order (time_at i) ∙ many

  end_is : (k : ℕ) → k < n → at ends k ≡ time_at i (at order k) + at ends (k + m)
  end_is k l = are.each k (omega (arith, l, length-map order (time_at i), many)) ∙ ap (λ x. x + at ends (k + m)) (get_or-map (time_at i) order k 0 0 (omega (arith, l, many)))

  no_end : (k : ℕ) → n ≤ k → at ends k ≡ 0
  no_end k l = get_or-eq_default ends 0 (omega (arith, l, ends_many))

  -- ends fall along a machine
  end_falls : (j x : ℕ) → at ends (x + j * m) ≤ at ends x
  end_falls zero x = let same : x ≡ x + 0 * m = omega arith in subst (λ y. at ends y ≤ at ends x) same (omega arith)
  end_falls (suc j) x =
      let next : x + j * m + m ≡ x + suc j * m = omega arith in
      subst (λ y. at ends y ≤ at ends x) next (elim (cases_lt (x + j * m) n) [
        | inl l ↦ omega (arith, end_falls j x, end_is (x + j * m) l)
        | inr l ↦ omega (arith, no_end (x + j * m + m) (omega (arith, l)))
      ])

  later_ends : (x y : ℕ) → x < y → x % m ≡ y % m → at ends y ≤ at ends (x + m)
  later_ends x y l e = subst (λ z. at ends z ≤ at ends (x + m))
      (there (x / m) (y / m) (x % m) (y % m) m (blocks_rise m x y l e) (block_and_rest m x) (block_and_rest m y) e) (end_falls (y / m - x / m - 1) (x + m))
    where
      there : (p q r s m : ℕ) {x y : ℕ} → p < q → p * m + r ≡ x → q * m + s ≡ y → r ≡ s → x + m + (q - p - 1) * m ≡ y
      there p q r s m {x} {y} l e f g = by (q - p - 1) (omega (arith, l))
        where
          by : (d : ℕ) → q ≡ p + 1 + d → x + m + d * m ≡ y
          by d w = omega (arith, e, f, g, ap (λ z. z * m) w)

  abbrev places : Places
  places = record { count = length order; job = at order; op = λ k. 0; machine = λ k. k % m; from = λ k. at ends (k + m); to = at ends }

  placed : ArePlaced i 1 places
  placed = record {
    count = omega (arith, many);
    few = omega (arith, many, h.few);
    job_inside = λ x l. order_inside n (time_at i) order sorted x (omega (arith, l, many));
    op_inside = λ x l. omega arith;
    operation = λ x l. subst (λ k. HasOperation k i (at order x) 0) (sym h.kind) refl;
    may = λ x l. subst (λ k. MayRun k i (at order x) 0 (x % m)) (sym h.kind) (rest_small m x h.machine);
    once = λ x y l b e f. differ x y l b e;
    long = λ x l. omega (arith, end_is x (omega (arith, l, many)));
    some = λ x l. (sum_times i h (at order x) (order_inside n (time_at i) order sorted x (omega (arith, l, many)))).0;
    on_machine = λ x y l b e. inr (later_ends x y l e);
    of_job = λ x y l b e. absurd (differ x y l b e);
    routed = λ e. absurd (no_route (sum_operations i h) e);
    released = λ x l. omega (arith, (sum_operations i h).release (at order x) (order_inside n (time_at i) order sorted x (omega (arith, l, many))));
    early = λ x l. omega (arith, small x 0 (omega (arith, l, many, ends_many)));
  }
    where
      differ : (x y : ℕ) → x < y → y < length order → at order x ≡ at order y → ⊥
      differ x y l b e = omega (arith, l, order_distinct n (time_at i) order sorted x y (omega (arith, l, b, many)) (omega (arith, b, many)) e)

  abbrev value : ℕ
  value = in_blocks m n (λ k. time_at i (at order k))

  ones : (f : ℕ → ℕ) → total_below n (λ r. 1 * f r) ≡ total_below n f
  ones f = total_below-same n _ f (λ r l. one-mul (f r))

  pub stacked_answer : IsSolved i (IsCutSumCost i) (IsStackedSchedule i) (over_one (stacked m order ends))
  stacked_answer = answered i (λ _. 1) (IsSumOf-ones i h.crit) order (order_once n (time_at i) order sorted) (stacked m order ends) value (at ends)
      (ones (at ends) ∙ ends_by_blocks n n m (λ k. time_at i (at order k)) (at ends) h.machine (omega arith) end_is no_end)
      (placed_is_feasible i 1 places (sum_operations i h).operations placed)
      (placed_is_within i 1 places (sum_operations i h).operations placed)
      (placed_is_answer i 1 places (sum_operations i h).operations placed (sum_operations i h).unit)
      (λ r l. placed_ends i 1 places (sum_operations i h).operations placed (at order r) (at ends r) (λ x b e.
      omega (arith, ap (at ends) (order_distinct n (time_at i) order sorted x r (omega (arith, b, many)) l e))))
      (λ t f. subst (λ x. nat_abs t.unit * value ≤ x) (sym (ones (λ r. end_at t (at order r))))
      (times_bound n m (nat_abs t.unit) (λ r. time_at i (at order r)) (λ r. end_at t (at order r)) h.machine
      (room_in_order i t f (time_at i) (λ test moment. law_of_last_ends.machines i t test moment h.kind f) order (order_once n (time_at i) order sorted))
      (order_falls n (time_at i) order sorted)))
      (record { order = order; ends = ends; falls = sorted; are = are; unit = refl; pieces = rw many refl })
      (placed_uncut i 1 places placed) (λ cost over. (order, sorted, over))
