-- Open shops whose operations take one time: by falling weight, m jobs go round m machines in m slots. The schedule, and what it costs.
use Rattle.std.proofs.Common.{◌≡◌, ◌≢◌, ℕ, ◌+◌, ◌*◌, ◌-◌, ◌/◌, ◌%◌, ◌<◌, ◌≤◌, ◌⊎◌, inl, inr, List, length, nat_abs, refl, sym, ap, ap₂, subst, ◌∙◌, add-one-le, arith}
use Rattle.std.proofs.Math.Nat.{div-le_self, mul-le-mul_right}
use Rattle.std.proofs.lemmas.Nat.{mul-le}
use Rattle.std.proofs.lemmas.Bool.{cases_lt}
use Rattle.msp_class.specs.declared.sizes.TheConstants.{MOST_JOBS, MOST_MACHINES, GREATEST, GREATEST_EQUAL_TIME}
use Rattle.msp_class.proofs.Quotients.{block_and_rest, rest_small, same_block}
use Rattle.msp_class.proofs.Sums.{total_below-same}
use Rattle.msp_instance.specs.declared.Instance.{Instance}
use Rattle.msp_instance.specs.Instance.{common_time, need_at}
use Rattle.msp_pieces.specs.Feasible.{HasOperation, MayRun}
use Rattle.msp_pieces.specs.Loads.{job_length}
use Rattle.msp_pieces.proofs.bounds.LastEnds.{law_of_last_ends}
use Rattle.msp_route.proofs.Turns.{turn_inside}
use Rattle.msp_cut_sums.specs.Sums.{at, in_blocks, weight_at, IsByFalling, IsOpenCost}
use Rattle.msp_cut_sums.specs.Schedules.{IsRoundSchedule}
use Rattle.msp_cut_sums.specs.Pieces.{slot, squared}
use Rattle.msp_cut_sums.proofs.Falling.{order_once, order_many, order_inside, order_falls, order_distinct}
use Rattle.msp_cut_sums.proofs.InBlocks.{weights_bound}
use Rattle.msp_cut_sums.proofs.Instances.{IsEvenShop, no_route, shop_is, shop_needs, shop_own, shop_operations, shop_machines, shop_length}
use Rattle.msp_route.proofs.Placed.{Places, ArePlaced, placed_is_feasible, placed_is_within, placed_is_answer, placed_ends}
use Rattle.msp_cut_sums.proofs.Rests.{rests_differ}
use Rattle.msp_cut_sums.proofs.Schedules.{placed_uncut, round_pieces}
use Rattle.msp_pieces.proofs.bounds.Room.{end_at}
use Rattle.msp_cut_sums.proofs.Room.{room_in_order}
use Rattle.msp_cut_sums.proofs.Summed.{IsSumOf-weights, IsSolved, answered, over_one}

-- ---- slots
module _ (m : ℕ) (some : 1 ≤ m) where
  abbrev turned : ℕ → ℕ → ℕ
  turned k machine = (machine + (m - k % m)) % m

  turned_small : (k machine : ℕ) → turned k machine < m
  turned_small k machine = rest_small m (machine + (m - k % m)) some

  equal_if : (x y : ℕ) → (x < y → ⊥) → (y < x → ⊥) → x ≡ y
  equal_if x y p q = grind arith

  -- on a machine each place has a slot of its own
  pub slot_of_machine : (j k machine : ℕ) → slot m j machine ≡ slot m k machine → j ≡ k
  slot_of_machine j k machine e = sym (block_and_rest m j) ∙ ap₂ (λ x y. x * m + y) same.0 (equal_if (j % m) (k % m) (seats j k (sym same.1)) (seats k j same.1)) ∙ block_and_rest m k
    where
      same : (j / m ≡ k / m) × (turned j machine ≡ turned k machine)
      same = same_block m (j / m) (k / m) (turned j machine) (turned k machine) (turned_small j machine) (turned_small k machine) e

      seats : (j k : ℕ) → turned k machine ≡ turned j machine → j % m < k % m → ⊥
      seats j k f l = rests_differ m (machine + (m - k % m)) (machine + (m - j % m)) f (omega (arith, l, rest_small m k some)) (omega (arith, l, rest_small m k some))

  -- and so has a place on each machine
  pub slot_of_place : (k machine other : ℕ) → machine < m → other < m → slot m k machine ≡ slot m k other → machine ≡ other
  slot_of_place k machine other l b e = equal_if machine other (turns machine other b same) (turns other machine l (sym same))
    where
      same : turned k machine ≡ turned k other
      same = (same_block m (k / m) (k / m) (turned k machine) (turned k other) (turned_small k machine) (turned_small k other) e).1

      turns : (x y : ℕ) → y < m → turned k x ≡ turned k y → x < y → ⊥
      turns x y b f l = rests_differ m (x + (m - k % m)) (y + (m - k % m)) f (omega (arith, l)) (omega (arith, b))

  pub slot_early : (k machine : ℕ) → slot m k machine + 1 ≤ (k / m + 1) * m
  slot_early k machine = omega (arith, turned_small k machine)

-- the operations of different slots are apart
apart : (a b t : ℕ) → a ≢ b → ((a + 1) * t ≤ b * t) ⊎ ((b + 1) * t ≤ a * t)
apart a b t n = elim (cases_lt a b) [
  | inl l ↦ inl (mul-le-mul_right t (add-one-le l))
  | inr l ↦ let h : b + 1 ≤ a = omega (arith, l, n) in inr (mul-le-mul_right t h)
]

module _ (i : Instance) (h : IsEvenShop i) (order : List ℕ) (sorted : IsByFalling (length i.jobs) (weight_at i) order) where
  abbrev n : ℕ
  n = length i.jobs

  abbrev m : ℕ
  m = i.machines

  abbrev time : ℕ
  time = common_time i

  abbrev span : ℕ
  span = m * time

  many : length order ≡ n
  many = order_many n (weight_at i) order sorted

  abbrev N : ℕ
  N = length order * m

  -- the place of a turn
  place_inside : (x : ℕ) → x < N → x / m < n
  place_inside x l = turn_inside n m x (omega (arith, l, ap (λ k. k * m) many))

  on : (x : ℕ) → x % m < m
  on x = rest_small m x h.of.machine

  inside : (x : ℕ) → x < N → at order (x / m) < n
  inside x l = order_inside n (weight_at i) order sorted (x / m) (place_inside x l)

  abbrev job : ℕ → ℕ
  job x = at order (x / m)

  abbrev slot_at : ℕ → ℕ
  slot_at x = slot m (x / m) (x % m)

  abbrev from : ℕ → ℕ
  from x = slot_at x * time

  abbrev to : ℕ → ℕ
  to x = (slot_at x + 1) * time

  same_place : (x y : ℕ) → x < N → y < N → job x ≡ job y → x / m ≡ y / m
  same_place x y l k e = order_distinct n (weight_at i) order sorted (x / m) (y / m) (place_inside x l) (place_inside y k) e

  same_turn : (x y : ℕ) → x / m ≡ y / m → x % m ≡ y % m → x ≡ y
  same_turn x y e f = sym (block_and_rest m x) ∙ ap₂ (λ a b. a * m + b) e f ∙ block_and_rest m y

  time_is : (x : ℕ) → x < N → (need_at i (job x) (x % m)).time ≡ time
  time_is x l = h.time (job x) (x % m) (inside x l) (on x)

  abbrev places : Places
  places = record { count = N; job = job; op = λ x. x % m; machine = λ x. x % m; from = from; to = to }

  placed : ArePlaced i m places
  placed = record {
    count = ap (λ k. k * m) many;
    few = omega (arith, mul-le (length order) m MOST_JOBS MOST_MACHINES (omega (arith, many, h.of.few)) h.of.machines);
    job_inside = inside;
    op_inside = λ x l. on x;
    operation = λ x l. subst (λ k. HasOperation k i (job x) (x % m)) (sym h.of.kind)
        (omega (arith, on x, shop_needs i h (job x) (inside x l)), λ z. omega (arith, time_is x l, z, h.span.0));
    may = λ x l. subst (λ k. MayRun k i (job x) (x % m) (x % m)) (sym h.of.kind) (sym (shop_own i h (job x) (x % m) (inside x l) (on x)));
    once = λ x y l b e f. omega (arith, l, same_turn x y (same_place x y (omega (arith, l, b)) b e) f);
    long = λ x l. omega (arith, time_is x l);
    some = λ x l. omega (arith, time_is x l, h.span.0);
    on_machine = λ x y l b e. apart (slot_at x) (slot_at y) time (λ s.
        omega (arith, l, same_turn x y (slot_of_machine m h.of.machine (x / m) (y / m) (y % m) (ap (slot m (x / m)) (sym e) ∙ s)) e));
    of_job = λ x y l b e. let p = same_place x y (omega (arith, l, b)) b e in
        apart (slot_at x) (slot_at y) time (λ s.
        omega (arith, l, same_turn x y p (slot_of_place m h.of.machine (y / m) (x % m) (y % m) (on x) (on y) (rw p at s))));
    routed = λ e. absurd (no_route (shop_operations i h) e);
    released = λ x l. omega (arith, (shop_operations i h).release (job x) (inside x l));
    early = λ x l. early x l;
  }
    where
      early : (x : ℕ) → x < N → to x ≤ MOST_JOBS * GREATEST
      early x l =
          let k = place_inside x l in
          let rows = mul-le (x / m / m + 1) m MOST_JOBS MOST_MACHINES (omega (arith, div-le_self (x / m) m, k, h.of.few)) h.of.machines in
          let last : slot_at x + 1 ≤ MOST_MACHINES * MOST_JOBS = omega (arith, slot_early m h.of.machine (x / m) (x % m), rows) in
          omega (arith, mul-le (slot_at x + 1) time (MOST_MACHINES * MOST_JOBS) GREATEST_EQUAL_TIME last h.span.1)

  abbrev value : ℕ
  value = in_blocks m n (λ k. span * weight_at i (at order k))

  abbrev end : ℕ → ℕ
  end k = (k / m + 1) * span

  pub squared_answer : IsSolved i (IsOpenCost i) (IsRoundSchedule i) (over_one (squared m time order))
  squared_answer = answered i (weight_at i) (IsSumOf-weights i h.of.crit) order (order_once n (weight_at i) order sorted)
      (squared m time order) value end
      (total_below-same n _ (λ k. (k / m + 1) * (span * weight_at i (at order k))) (λ k l. omega arith))
      (placed_is_feasible i m places (shop_operations i h).operations placed)
      (placed_is_within i m places (shop_operations i h).operations placed)
      (placed_is_answer i m places (shop_operations i h).operations placed (shop_operations i h).unit)
      (λ r l. placed_ends i m places (shop_operations i h).operations placed (at order r) (end r) (λ x b e. ends x r (order_distinct n (weight_at i) order sorted (x / m) r (place_inside x b) l e)))
      (λ t f. weights_bound n m (nat_abs t.unit) (λ r. job_length i (at order r)) (λ r. end_at t (at order r)) h.of.machine
      (room_in_order i t f (job_length i) (λ test moment. law_of_last_ends.shops i t test moment (shop_is i h) (shop_machines i h) f) order (order_once n (weight_at i) order sorted))
      span (λ r l. shop_length i h (at order r) (order_inside n (weight_at i) order sorted r l)) (λ k. weight_at i (at order k)) (order_falls n (weight_at i) order sorted))
      (record { order = order; falls = sorted; unit = refl; pieces = round_pieces m h.of.machine time n N order place_inside })
      (placed_uncut i m places placed) (λ cost over. (order, sorted, over))
    where
      ends : (x r : ℕ) → x / m ≡ r → to x ≤ end r
      ends x r e = omega (arith, mul-le-mul_right time (slot_early m h.of.machine (x / m) (x % m)), ap end e)
