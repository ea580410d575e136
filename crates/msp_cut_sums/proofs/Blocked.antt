-- Jobs of one time by falling weight, m at a time: the schedule, and what it costs.
use Rattle.std.proofs.Common.{◌≡◌, ℕ, ◌+◌, ◌*◌, ◌/◌, ◌%◌, ◌<◌, inl, List, length, nat_abs, refl, sym, ap, subst, add-one-le, arith}
use Rattle.std.proofs.Math.Nat.{div-le_self, mul-le-mul_right}
use Rattle.std.proofs.lemmas.Nat.{mul-le}
use Rattle.msp_class.specs.declared.sizes.TheConstants.{MOST_JOBS, GREATEST_EQUAL_TIME}
use Rattle.msp_class.proofs.Quotients.{rest_small}
use Rattle.msp_class.proofs.Sums.{total_below-same}
use Rattle.msp_instance.specs.declared.Instance.{Instance}
use Rattle.msp_instance.specs.Instance.{common_time}
use Rattle.msp_pieces.specs.Feasible.{HasOperation, MayRun}
use Rattle.msp_pieces.specs.BackToBack.{time_at}
use Rattle.msp_pieces.proofs.bounds.LastEnds.{law_of_last_ends}
use Rattle.msp_cut_sums.specs.Sums.{at, in_blocks, weight_at, IsByFalling, IsWeightsCost}
use Rattle.msp_cut_sums.specs.Schedules.{IsBlockedSchedule}
use Rattle.msp_cut_sums.specs.Pieces.{blocked}
use Rattle.msp_cut_sums.proofs.Falling.{order_once, order_many, order_inside, order_falls, order_distinct}
use Rattle.msp_cut_sums.proofs.InBlocks.{weights_bound}
use Rattle.msp_cut_sums.proofs.Instances.{IsWeightsInstance, no_route, weights_operations, weights_time, weights_span}
use Rattle.msp_route.proofs.Placed.{Places, ArePlaced, placed_is_feasible, placed_is_within, placed_is_answer, placed_ends}
use Rattle.msp_cut_sums.proofs.Rests.{blocks_rise}
use Rattle.msp_cut_sums.proofs.Schedules.{placed_uncut}
use Rattle.msp_pieces.proofs.bounds.Room.{end_at}
use Rattle.msp_cut_sums.proofs.Room.{room_in_order}
use Rattle.msp_cut_sums.proofs.Summed.{IsSumOf-weights, IsSolved, answered, over_one}

module _ (i : Instance) (h : IsWeightsInstance i) (order : List ℕ) (sorted : IsByFalling (length i.jobs) (weight_at i) order) where
  abbrev n : ℕ
  n = length i.jobs

  abbrev m : ℕ
  m = i.machines

  abbrev span : ℕ
  span = common_time i

  many : length order ≡ n
  many = order_many n (weight_at i) order sorted

  inside : (k : ℕ) → k < n → at order k < n
  inside = order_inside n (weight_at i) order sorted

  abbrev end : ℕ → ℕ
  end k = (k / m + 1) * span

  abbrev places : Places
  places = record { count = length order; job = at order; op = λ k. 0; machine = λ k. k % m; from = λ k. k / m * span; to = end }

  placed : ArePlaced i 1 places
  placed = record {
    count = omega (arith, many);
    few = omega (arith, many, h.few);
    job_inside = λ x l. inside x (omega (arith, l, many));
    op_inside = λ x l. omega arith;
    operation = λ x l. subst (λ k. HasOperation k i (at order x) 0) (sym h.kind) refl;
    may = λ x l. subst (λ k. MayRun k i (at order x) 0 (x % m)) (sym h.kind) (rest_small m x h.machine);
    once = λ x y l b e f. differ x y l b e;
    long = λ x l. omega (arith, weights_time i h (at order x) (inside x (omega (arith, l, many))));
    some = λ x l. omega (arith, weights_time i h (at order x) (inside x (omega (arith, l, many))), (weights_span i h).0);
    on_machine = λ x y l b e. inl (mul-le-mul_right span (add-one-le (blocks_rise m x y l e)));
    of_job = λ x y l b e. absurd (differ x y l b e);
    routed = λ e. absurd (no_route (weights_operations i h) e);
    released = λ x l. omega (arith, (weights_operations i h).release (at order x) (inside x (omega (arith, l, many))));
    early = λ x l. omega (arith, mul-le (x / m + 1) span MOST_JOBS GREATEST_EQUAL_TIME (omega (arith, div-le_self x m, l, many, h.few)) (weights_span i h).1);
  }
    where
      differ : (x y : ℕ) → x < y → y < length order → at order x ≡ at order y → ⊥
      differ x y l b e = omega (arith, l, order_distinct n (weight_at i) order sorted x y (omega (arith, l, b, many)) (omega (arith, b, many)) e)

  abbrev value : ℕ
  value = in_blocks m n (λ k. span * weight_at i (at order k))

  pub blocked_answer : IsSolved i (IsWeightsCost i) (IsBlockedSchedule i) (over_one (blocked m span order))
  blocked_answer = answered i (weight_at i) (IsSumOf-weights i h.crit) order (order_once n (weight_at i) order sorted) (blocked m span order) value end
      (total_below-same n _ (λ k. (k / m + 1) * (span * weight_at i (at order k))) (λ k l. omega arith))
      (placed_is_feasible i 1 places (weights_operations i h).operations placed)
      (placed_is_within i 1 places (weights_operations i h).operations placed)
      (placed_is_answer i 1 places (weights_operations i h).operations placed (weights_operations i h).unit)
      (λ r l. placed_ends i 1 places (weights_operations i h).operations placed (at order r) (end r) (λ x b e.
      omega (arith, ap end (order_distinct n (weight_at i) order sorted x r (omega (arith, b, many)) l e))))
      (λ t f. weights_bound n m (nat_abs t.unit) (λ r. time_at i (at order r)) (λ r. end_at t (at order r)) h.machine
      (room_in_order i t f (time_at i) (λ test moment. law_of_last_ends.machines i t test moment h.kind f) order (order_once n (weight_at i) order sorted))
      span (λ r l. weights_time i h (at order r) (inside r l)) (λ k. weight_at i (at order k)) (order_falls n (weight_at i) order sorted))
      (record { order = order; falls = sorted; unit = refl; pieces = rw many refl })
      (placed_uncut i 1 places placed) (λ cost over. (order, sorted, over))
