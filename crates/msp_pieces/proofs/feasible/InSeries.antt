-- An instance without release dates and routes has a feasible schedule that ends when the times of all jobs are over, so a best one costs little.
use Rattle.std.proofs.Common.{◌≡◌, ◌≢◌, ℕ, ◌+◌, ◌*◌, ◌<◌, ◌≤◌, ◌⊎◌, Bool, true, false, not, List, [], ◌∷◌, length, get_or, filter, All, AllPairs, Contains, sum_by}
use Rattle.std.proofs.Common.{ℤ, pos, neg_ℤ, ◌-ℤ◌, ◌*ℤ◌, ◌≤ℤ◌, unsigned_abs, slice_index_or, Some, inl, inr, refl, sym, ap, subst, subst₂, ◌∙◌, arith, lit≤, le_trans}
use Rattle.std.specs.Prelude.{◌==◌}
use Rattle.std.specs.List.{range_with_len}
use Rattle.std.proofs.Math.Nat.{mul_comm, one-mul, pos_of_ne-zero}
use Rattle.std.proofs.lemmas.Bool.{ne_eqb, eq-eqb, false≢true}
use Rattle.std.proofs.lemmas.Int.{ints}
use Rattle.std.proofs.lemmas.List.{length-map}
use Rattle.std.proofs.lemmas.List.Elements.{All-nil, All-filter, All-map, All-contains, filter_passes}
use Rattle.std.proofs.lemmas.List.Kept.{AllPairs-filter}
use Rattle.std.proofs.lemmas.List.Filters.{length-filter_both}
use Rattle.std.proofs.lemmas.Nat.{mul-le}
use Rattle.std.proofs.lemmas.Option.{slice_get-get_or}
use Rattle.msp_class.specs.declared.sizes.TheConstants.{MOST_JOBS, MOST_MACHINES, GREATEST, GREATEST_EQUAL_TIME, GREATEST_UNIT}
use Rattle.msp_class.specs.declared.class.Crit.TheVariants.{Cmax, Lmax}
use Rattle.msp_class.specs.declared.environments.EnvKind.{EnvKind}
use Rattle.msp_class.specs.declared.environments.EnvKind.TheVariants.{Identical, Uniform, Unrelated, OpenShop, FlowShop, JobShop}
use Rattle.msp_class.specs.declared.class.Times.{Times}
use Rattle.msp_class.specs.declared.class.Times.TheVariants.{Equal}
use Rattle.msp_class.specs.Crit.{is_greatest, uses_due}
use Rattle.msp_class.specs.Env.{kind_of, is_mirror, is_mirror_kind}
use Rattle.msp_class.proofs.Sums.{Contains-filter, sum_by-mono, sum_by-constant, OnceBelow-range, OnceBelow-distinct, OnceBelow-contains, length-OnceBelow}
use Rattle.msp_class.proofs.IntegerRing.{natural_some, pos-le, ≤ℤ_trans, *ℤ-cancel, *ℤ-mono, *ℤ-mono_right, *ℤ_assoc, *ℤ_comm, *ℤ-neg}
use Rattle.msp_instance.specs.declared.Instance.{Instance}
use Rattle.msp_instance.specs.Instance.{no_need, no_job, job_at, need_at}
use Rattle.msp_instance.specs.Conditions.{Limits, MeetsConditions, Inner, IsSequence, GoesForward, IsAcyclic, HasShape, HasTimes, HasSpeeds, least_time, greatest_time, inner_limits}
use Rattle.msp_instance.proofs.CycleLemmas.{OnceBelow-from_sequence, same_place}
use Rattle.msp_pieces.specs.declared.limits.TheConstants.{GREATEST_CARRIED_UNIT}
use Rattle.msp_pieces.specs.declared.Schedule.{Schedule}
use Rattle.msp_pieces.specs.Feasible.{Feasible, whole_work}
use Rattle.msp_pieces.specs.Cost.{Best, cost_of, job_cost, end_of}
use Rattle.msp_pieces.proofs.feasible.OneEach.{early_end}
use Rattle.msp_pieces.proofs.feasible.LastEnds.{last_end-least}
use Rattle.msp_pieces.proofs.costs.Charges.{charge_of, cost_of-least}
use Rattle.msp_pieces.proofs.feasible.Frames.{frame_by, frame_of, IsShaped-from_conditions, HasTimePerMachine, rate_on, rate_times, no_heads, Feasible-from_fits}
use Rattle.msp_pieces.proofs.costs.Small.{due_within}
use Rattle.msp_pieces.proofs.feasible.Series.{IsSerial, MayPrecede, zero_only, task, tasks_of, tasks-sum, one_by_one, series-to, Fits-series}

-- ---- the operations of a job, where each runs, and the unit over which it runs as a whole for its time
abbrev has_time : Instance → ℕ → ℕ → Bool
has_time i j o = not ((need_at i j o).time == 0)

abbrev ops_by : EnvKind → Instance → ℕ → List ℕ
ops_by OpenShop i j = filter (has_time i j) (range_with_len 0 (length (job_at i j).needs))
ops_by FlowShop i j = []
ops_by JobShop i j = []
ops_by _ i j = 0 ∷ []

abbrev machine_by : EnvKind → Instance → ℕ → ℕ → ℕ
machine_by OpenShop i j o = (need_at i j o).machine
machine_by _ i j o = 0

abbrev unit_by : EnvKind → Instance → ℕ
unit_by Uniform i = slice_index_or i.speeds 0 0
unit_by _ i = 1

abbrev most_by : EnvKind → ℕ
most_by OpenShop = MOST_MACHINES
most_by _ = 1

abbrev time_at : Instance → ℕ → ℕ → ℕ
time_at i j o = (need_at i j o).time

-- what the conditions say of the instance, where the kind is any one
record Facts (k : EnvKind) (T : ℕ) (i : Instance) : Type 0 where
  machines : (1 ≤ i.machines) × (i.machines ≤ MOST_MACHINES)
  speeds : HasSpeeds k i.machines i.speeds
  own : k ≡ Unrelated → All (HasTimePerMachine i.machines) i.jobs
  shape : (j : ℕ) → j < length i.jobs → HasShape k i.class.env i.machines (job_at i j).needs
  times : (j : ℕ) → j < length i.jobs → HasTimes (least_time k i.class.times) T (job_at i j).needs
  heads : (j : ℕ) → j < length i.jobs → (job_at i j).release ≡ 0

-- in shops, the operations with a time
module _ (i : Instance) (j : ℕ) where
  abbrev numbers : List ℕ
  numbers = range_with_len 0 (length (job_at i j).needs)

  abbrev busy : List ℕ
  busy = filter (has_time i j) numbers

  shop_has : All (λ o. (o < length (job_at i j).needs) × ((need_at i j o).time ≢ 0)) busy
  shop_has a d l = (
    All-filter (has_time i j) (λ o. o < length (job_at i j).needs) numbers (OnceBelow-range (length (job_at i j).needs)).within a d l,
    λ z. false≢true (sym (ap not (eq-eqb _ 0 z)) ∙ filter_passes (has_time i j) numbers a d l),
  )

  shop_all : (o : ℕ) → (o < length (job_at i j).needs) × ((need_at i j o).time ≢ 0) → Contains busy o
  shop_all o h = Contains-filter (has_time i j) numbers o (OnceBelow-contains (OnceBelow-range (length (job_at i j).needs)) o h.0) (ap not (ne_eqb _ _ h.1))

  shop_few : length busy ≤ length (job_at i j).needs
  shop_few = omega (arith, length-filter_both (has_time i j) (λ o. not (has_time i j o)) (λ o. refl) numbers, length-OnceBelow (OnceBelow-range (length (job_at i j).needs)))

unit_positive : (k : EnvKind) (T : ℕ) (i : Instance) → Facts k T i → 1 ≤ unit_by k i
unit_positive Uniform T i h = (h.speeds.1 0 0 (omega (arith, h.speeds.0, h.machines))).0
unit_positive _ T i h = omega arith

-- on machines of one need, the rate on the first of them
rate_first : (k : EnvKind) (T : ℕ) (i : Instance) → Facts k T i → (j : ℕ) → j < length i.jobs → time_at i j 0 * rate_on k i j 0 ≡ unit_by k i * whole_work k i j 0
rate_first Unrelated T i h j l = mul_comm (time_at i j 0) (rate_on Unrelated i j 0) ∙ rate_times i j 0 (h.own refl) l (omega (arith, h.machines)) ∙ sym (one-mul _)
rate_first _ T i h j l = mul_comm (time_at i j 0) _

serial_by : (k : EnvKind) (T : ℕ) (i : Instance) → is_mirror_kind k ≡ true → Facts k T i → IsSerial (frame_by k i) (unit_by k i) (ops_by k i) (machine_by k i) (time_at i)
serial_by OpenShop T i m h = record {
  unit = omega arith;
  has = λ j l. shop_has i j;
  all = λ j o l e. shop_all i j o e;
  once = λ j l. AllPairs-filter (λ x y. x ≢ y) (has_time i j) (numbers i j) (OnceBelow-distinct (OnceBelow-range (length (job_at i j).needs)));
  may = λ j l a d b. refl;
  some = λ j l a d b. pos_of_ne-zero (shop_has i j a d b).1;
  rate = λ j l a d b. mul_comm (time_at i j (get_or (busy i j) a d)) 1;
  heads = h.heads;
  unrouted = refl;
}
serial_by FlowShop T i m h = absurd (cc)
serial_by JobShop T i m h = absurd (cc)
serial_by k T i m h = record {
  unit = unit_positive k T i h;
  has = λ j l. zero_only (λ o. o ≡ 0) refl;
  all = λ j o l e. (0, omega arith, sym e);
  once = λ j l a b d m n. absurd (omega (arith, m, n));
  may = λ j l. zero_only (λ o. 0 < i.machines) (omega (arith, h.machines));
  some = λ j l. zero_only (λ o. 0 < time_at i j o) (h.times j l 0 no_need (omega (arith, (h.shape j l).0, h.machines))).0;
  rate = λ j l. zero_only (λ o. time_at i j o * rate_on k i j 0 ≡ unit_by k i * whole_work k i j o) (rate_first k T i h j l);
  heads = h.heads;
  unrouted = refl;
}

times_most : (a b t n : ℕ) → a ≤ b → n ≤ a * t → n ≤ b * t
times_most a b t n h k = omega (arith, mul-le a t b t h (omega arith), k)

-- the operations of a job take at most so often the greatest time
job_sum : (k : EnvKind) (T : ℕ) (i : Instance) → Facts k T i → (j : ℕ) → j < length i.jobs → sum_by (λ x. time_at i x.job x.op) (tasks_of (ops_by k i) j) ≤ most_by k * T
job_sum k T i h j l = times_most (length (ops_by k i j)) (most_by k) T _ (few k h) (omega (
  arith,
  sum_by-mono (λ x. time_at i x.job x.op) (λ _. T) (tasks_of (ops_by k i) j) (All-map (λ x. time_at i x.job x.op ≤ T) (task j) (ops_by k i j) (short k h)),
  sum_by-constant T (tasks_of (ops_by k i) j),
  ap (λ n. n * T) (length-map (ops_by k i j) (task j)),
))
  where
    few : (k : EnvKind) → Facts k T i → length (ops_by k i j) ≤ most_by k
    few OpenShop h = omega (arith, shop_few i j, (h.shape j l).0, h.machines)
    few _ h = omega arith

    short : (k : EnvKind) → Facts k T i → All (λ o. time_at i j o ≤ T) (ops_by k i j)
    short OpenShop h = λ a d b. (h.times j l (get_or (busy i j) a d) no_need (shop_has i j a d b).0).1
    short FlowShop h = All-nil (λ o. time_at i j o ≤ T)
    short JobShop h = All-nil (λ o. time_at i j o ≤ T)
    short _ h = zero_only (λ o. time_at i j o ≤ T) (h.times j l 0 no_need (omega (arith, (h.shape j l).0, h.machines))).1

-- ---- the order of the jobs
module _ (i : Instance) (order : List ℕ) (q : IsSequence i order) (ends : All (λ a. (a.before < length i.jobs) × (a.after < length i.jobs)) i.arcs) (forward : All (GoesForward order) i.arcs) where
  pub may_precede : AllPairs (MayPrecede i.arcs) order
  may_precede a b d h k arc c e f =
      let (m, n, less, at, to) = All-contains (GoesForward order) i.arcs arc forward c in
      let w = All-contains (λ x. (x.before < length i.jobs) × (x.after < length i.jobs)) i.arcs arc ends c in
      omega (
        arith,
        less,
        same_place i order q arc.before m b w.0 at (slice_get-get_or order b d k ∙ ap Some (sym e)),
        same_place i order q arc.after n a w.1 to
            (slice_get-get_or order a d (omega arith) ∙ ap Some (sym f)),
        h,
      )

  no_loops : All (λ a. a.before ≢ a.after) i.arcs
  no_loops k d l e =
      let (m, n, less, at, to) = forward k d l in
      omega (arith, less, same_place i order q (get_or i.arcs k d).after m n (ends k d l).1 (at ∙ ap Some e) to)

-- ---- the schedule
abbrev series_of : Instance → List ℕ → Schedule
series_of i order = let k = kind_of i.class.env in record { unit = pos (unit_by k i); pieces = one_by_one (ops_by k i) (machine_by k i) (time_at i) order }

facts : (l : Limits) (i : Instance) → MeetsConditions l i → i.class.heads ≡ false → Facts (kind_of i.class.env) (greatest_time l i.class.times) i
facts l i h e = record {
  machines = (h.machines.0, h.machines.1);
  speeds = h.speeds;
  own = (IsShaped-from_conditions l i h).unrelated;
  shape = λ j b. (h.jobs j no_job b).needs.shape;
  times = λ j b. (h.jobs j no_job b).needs.times;
  heads = no_heads l i e h;
}

-- a feasible schedule that is over after so many units of time
pub record IsEarly (i : Instance) (time : ℕ) (s : Schedule) : Type 0 where
  pub feasible : Feasible i s
  pub ends : All (λ p. p.to ≤ℤ pos time) s.pieces

pub series-is_early : (l : Limits) (i : Instance) → is_mirror i.class.env ≡ true → MeetsConditions l i
    → i.class.heads ≡ false → (a : IsAcyclic i) → IsEarly i (MOST_JOBS * (most_by (kind_of i.class.env) * greatest_time l i.class.times)) (series_of i a.0)
series-is_early l i m h e (order, q, forward) =
    let k = kind_of i.class.env in
    let T = greatest_time l i.class.times in
    let g = facts l i h e in
    let serial = serial_by k T i m g in
    let o = OnceBelow-from_sequence i order q in
    let sum = tasks-sum (ops_by k i) (λ x. time_at i x.job x.op) (most_by k * T) order (λ a d b. job_sum k T i g (get_or order a d) (o.within a d b)) in
    let all = times_most (length order) MOST_JOBS (most_by k * T) _ (omega (arith, q.whole, h.few)) sum in
    record {
      feasible = Feasible-from_fits i (series_of i order) (IsShaped-from_conditions l i h)
          (Fits-series (frame_of i) (unit_by k i) (ops_by k i) (machine_by k i) (time_at i) serial order o (may_precede i order q h.ends forward) (no_loops i order q h.ends forward));
      ends = λ a d b. ≤ℤ_trans (series-to (frame_of i) (unit_by k i) (ops_by k i) (machine_by k i) (time_at i) serial order o a d b) (pos-le all);
    }

-- ---- what it costs
-- an early schedule costs little; no due date is below -d
module _ (i : Instance) (s : Schedule) (time d u : ℕ) (early : IsEarly i time s) (is : s.unit ≡ pos u) (dues : (j : ℕ) → j < length i.jobs → neg_ℤ (pos d) ≤ℤ (job_at i j).due) where
  unit_some : 1 ≤ u
  unit_some = omega (arith, ints, early.feasible.unit, is)

  ended : (j : ℕ) → end_of s j ≤ℤ pos time
  ended j = last_end-least s.pieces j (pos time) (pos-le (omega arith)) (λ k e l _. early.ends k e l)

  room : (n m : ℕ) → 1 ≤ m → n + m * d ≤ m * (n + d)
  room n m h = omega (arith, mul-le 1 n m n h (omega arith))

  late_small : (x y : ℤ) → x ≤ℤ pos time → neg_ℤ (pos d) ≤ℤ y → (x -ℤ (pos u *ℤ y)) ≤ℤ (pos u *ℤ pos (time + d))
  late_small x y h k = ≤ℤ_trans (omega (arith, ints, subst (λ z. z ≤ℤ (pos u *ℤ y)) (*ℤ-neg (pos u) (pos d)) (*ℤ-mono u k))) (pos-le (room time u unit_some))

  charge_small : (i.class.crit ≡ Cmax) ⊎ (i.class.crit ≡ Lmax) → (j : ℕ) → j < length i.jobs → charge_of i s j ≤ℤ (s.unit *ℤ pos (time + d))
  charge_small c j l = subst (λ v. job_cost i.class.crit v (job_at i j) (end_of s j) ≤ℤ (v *ℤ pos (time + d))) (sym is) (elim c [
    | inl e ↦ subst (λ k. job_cost k (pos u) (job_at i j) (end_of s j) ≤ℤ (pos u *ℤ pos (time + d))) (sym e)
        (≤ℤ_trans (ended j) (pos-le (omega (arith, room time u unit_some))))
    | inr e ↦ subst (λ k. job_cost k (pos u) (job_at i j) (end_of s j) ≤ℤ (pos u *ℤ pos (time + d))) (sym e) (late_small (end_of s j) (job_at i j).due (ended j) (dues j l))
  ])

  early_is_cheap : 1 ≤ length i.jobs → (i.class.crit ≡ Cmax) ⊎ (i.class.crit ≡ Lmax) → cost_of i s ≤ℤ (s.unit *ℤ pos (time + d))
  early_is_cheap some c =
      cost_of-least i s (s.unit *ℤ pos (time + d)) (elim c [ inl e ↦ ap is_greatest e | inr e ↦ ap is_greatest e ]) some (charge_small c)

-- no best schedule costs more
best_is_cheap : (i : Instance) (s t : Schedule) (bound : ℕ) → Feasible i s → cost_of i s ≤ℤ (s.unit *ℤ pos bound) → Best i t → cost_of i t ≤ℤ (t.unit *ℤ pos bound)
best_is_cheap i s t bound f h b =
    let (u, e) = natural_some s.unit (omega (arith, ints, f.unit)) in
    let (v, g) = natural_some t.unit (omega (arith, ints, b.feasible.unit)) in
    subst (λ z. cost_of i t ≤ℤ (z *ℤ pos bound)) (sym g) (shrunk u v (cost_of i t) (cost_of i s) (omega (arith, ints, f.unit, e))
    (subst (λ z. cost_of i s ≤ℤ (z *ℤ pos bound)) e h) (subst₂ (λ y z. (cost_of i t *ℤ y) ≤ℤ (cost_of i s *ℤ z)) e g (b.least s f)))
  where
    shrunk : (u v : ℕ) (x y : ℤ) → 1 ≤ u → y ≤ℤ (pos u *ℤ pos bound) → (x *ℤ pos u) ≤ℤ (y *ℤ pos v) → x ≤ℤ (pos v *ℤ pos bound)
    shrunk u v x y some h k = *ℤ-cancel u some
        (subst₂ (λ a b. a ≤ℤ b) (*ℤ_comm x (pos u)) (*ℤ_assoc (pos u) (pos bound) (pos v) ∙ ap (λ z. pos u *ℤ z) (*ℤ_comm (pos bound) (pos v))) (≤ℤ_trans k (*ℤ-mono_right v h)))

-- ---- in numbers, within the limits that carried instances keep
-- the units with which a best schedule ends by early_end
abbrev pub unit_limit : EnvKind → ℕ
unit_limit Unrelated = unsigned_abs GREATEST_CARRIED_UNIT
unit_limit OpenShop = GREATEST
unit_limit _ = unsigned_abs GREATEST_UNIT

time_limit : (l : Limits) (times : Times) → GREATEST_EQUAL_TIME ≤ l.greatest_time → greatest_time l times ≤ l.greatest_time
time_limit l Equal h = h
time_limit l _ h = omega arith

equal_time_small : (k : EnvKind) → GREATEST_EQUAL_TIME ≤ (inner_limits k).greatest_time
equal_time_small Identical = lit≤ tt
equal_time_small _ = lit≤ tt

-- times at most T on c operations a job, due dates from -d, and a unit of at most u
in_numbers : (u c T G d : ℕ) → T ≤ G → u * (MOST_JOBS * (c * G) + d) ≤ early_end → u * (MOST_JOBS * (c * T) + d) ≤ early_end
in_numbers u c T G d h k = le_trans (mul-le u (MOST_JOBS * (c * T) + d) u (MOST_JOBS * (c * G) + d) (omega arith) (omega (arith, mul-le c T c G (omega arith) h))) k

limits_small : (k : EnvKind) (T : ℕ) → is_mirror_kind k ≡ true → T ≤ (inner_limits k).greatest_time → unit_limit k * (MOST_JOBS * (most_by k * T) + (inner_limits k).greatest_date) ≤ early_end
limits_small Identical T m h = in_numbers (unit_limit Identical) (most_by Identical) T _ _ h (lit≤ tt)
limits_small Uniform T m h = in_numbers (unit_limit Uniform) (most_by Uniform) T _ _ h (lit≤ tt)
limits_small Unrelated T m h = in_numbers (unit_limit Unrelated) (most_by Unrelated) T _ _ h (lit≤ tt)
limits_small OpenShop T m h = in_numbers (unit_limit OpenShop) (most_by OpenShop) T _ _ h (lit≤ tt)
limits_small _ T m h = absurd (cc)

pub best_ends_early : (i : Instance) (t : Schedule) → Inner i → is_mirror i.class.env ≡ true → i.class.heads ≡ false
    → (i.class.crit ≡ Cmax) ⊎ (i.class.crit ≡ Lmax) → Best i t → t.unit ≤ℤ pos (unit_limit (kind_of i.class.env)) → cost_of i t ≤ℤ pos early_end
best_ends_early i t h m e c b small =
    let k = kind_of i.class.env in
    let l = inner_limits k in
    let T = greatest_time l i.class.times in
    let s = series_of i h.acyclic.0 in
    let early = series-is_early l i m h.conditions e h.acyclic in
    let dues = λ (j : ℕ) (b : j < length i.jobs). (due_within l (uses_due i.class.crit) (job_at i j).due (h.conditions.jobs j no_job b).due).0 in
    let cheap = early_is_cheap i s (MOST_JOBS * (most_by k * T)) l.greatest_date (unit_by k i) early refl dues h.conditions.some c in
    ≤ℤ_trans (best_is_cheap i s t (MOST_JOBS * (most_by k * T) + l.greatest_date) early.feasible cheap b)
    (≤ℤ_trans (*ℤ-mono_right (MOST_JOBS * (most_by k * T) + l.greatest_date) small) (pos-le (limits_small k T m (time_limit l i.class.times (equal_time_small k)))))
