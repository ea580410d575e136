-- The rows from uniform to unrelated machines: times are multiplied by a common multiple of the speeds.
use Rattle.std.proofs.Common.{◌≡◌, ℕ, suc, zero, ◌*◌, ◌/◌, ◌<◌, ◌≤◌, List, [], length, get_or, map, All, Some, unwrap_or, inl, ℤ, pos, negsuc, ◌+ℤ◌, ◌*ℤ◌, ◌≤ℤ◌}
use Rattle.std.proofs.Common.{slice_index_or, refl, sym, ap, ap₂, subst, subst₂, ◌∙◌, arith}
use Rattle.std.specs.Prelude.{MatchOption, ⊤}
use Rattle.std.specs.Int.{◌∣◌}
use Rattle.std.proofs.Math.Nat.{div-mul_cancel}
use Rattle.std.proofs.lemmas.Bool.{eqb-true}
use Rattle.std.proofs.lemmas.Int.{ints}
use Rattle.std.proofs.lemmas.Nat.{mul-le}
use Rattle.std.proofs.lemmas.List.{length-map, map-id}
use Rattle.std.proofs.lemmas.List.Elements.{All-map, All-contains_itself}
use Rattle.msp_class.specs.declared.class.Env.{Env}
use Rattle.msp_class.specs.declared.class.Env.TheVariants.{Q2, Q, R2, R}
use Rattle.msp_class.specs.declared.class.Times.TheVariants.{General}
use Rattle.msp_class.specs.declared.class.Crit.{Crit}
use Rattle.msp_class.specs.declared.class.Crit.TheVariants.{SumU, SumWU}
use Rattle.msp_class.specs.declared.environments.EnvKind.TheVariants.{Uniform, Unrelated}
use Rattle.msp_class.specs.Crit.{uses_due, uses_curve}
use Rattle.msp_class.specs.Env.{kind_of, fixed_machines}
use Rattle.msp_class.proofs.EnvNumbers.{env_number-injective}
use Rattle.msp_class.proofs.RankLemmas.{times_number-injective}
use Rattle.msp_class.proofs.IntegerRing.{≤ℤ_of_same, pos-le, le-pos, one-*ℤ, zero-*ℤ, +ℤ_idr, *ℤ_assoc, *ℤ_comm, *ℤ_exchange, *ℤ-mono, *ℤ-cancel_same}
use Rattle.msp_class.specs.declared.sizes.TheConstants.{GREATEST, GREATEST_MULTIPLE}
use Rattle.msp_instance.specs.declared.Job.{Job}
use Rattle.msp_instance.specs.declared.Instance.{Instance}
use Rattle.msp_instance.specs.Instance.{no_need, no_job, job_at, need_at, common_time}
use Rattle.msp_instance.specs.Conditions.{IsJobOf, HasNeeds, HasShape, HasSpeeds, HasSameTimes, HasRelease, HasDue, HasCurve, HasNearDues, Inner, inner_limits, inner_factor, least_time, greatest_time}
use Rattle.msp_instance.specs.Multiples.{IsLeastOfAll}
use Rattle.msp_pieces.specs.declared.Schedule.{Schedule}
use Rattle.msp_pieces.specs.Feasible.{Feasible, product_of_times}
use Rattle.msp_pieces.specs.Cost.{cost_of, end_of, job_cost}
use Rattle.msp_pieces.proofs.feasible.Frames.{frame_by, rate_on, IsShaped, IsShaped-from_conditions, HasTimePerMachine, job_at-map, rate_times, product_of_times-positive}
use Rattle.msp_pieces.proofs.changes.Moves.{Suits}
use Rattle.msp_pieces.proofs.changes.Transport.{Carries, Stretches-identity, Stretches-factor, Feasible-carried, end_of-carried}
use Rattle.msp_pieces.proofs.costs.Charges.{charge_of, cost-multiple, job_cost-scale}
use Rattle.msp_table.specs.Rows.{goes_of, table}
use Rattle.msp_route.specs.Law.{Rate, Applies, IsLower, IsPositive, IsForth, IsBack}
use Rattle.msp_route.proofs.Applied.{part_and_condition}
use Rattle.msp_route.proofs.InnerChanges.{HasNearDues-map}
use Rattle.msp_route.specs.Rates.{least_common_multiple, cost_factor, speed_rate}
use Rattle.msp_machines.specs.Unrelated.{only_time, stretched, led_by_speeds, stretched_schedule, shrunk_schedule}
use Rattle.msp_machines.specs.laws.NeedsBy.{get_or-needs_by, HasNeeds-needs_by}
use Rattle.msp_machines.specs.laws.InnerMachines.{in_environment, AreMachines, Inner-in_environment}
use Rattle.msp_machines.specs.laws.LeastMultiple.{least_multiple, least-small}
use Rattle.msp_machines.specs.laws.StretchedCharges.{job_cost-stretched}
use Rattle.msp_machines.specs.laws.StretchedInner.{HasRelease-product, HasDue-product, HasCurve-product, near-product}

-- ---- speeds
speeds_some : (m : ℕ) (speeds : List ℕ) → HasSpeeds Uniform m speeds → All (λ s. 1 ≤ s) speeds
speeds_some m speeds h = λ k d l. (h.1 k d l).0

-- the part of a common multiple that goes to a speed
pub record IsPart (n : ℕ) (s : ℕ) : Type 0 where
  pub whole : n / s * s ≡ n
  pub some : 1 ≤ n / s
  pub few : n / s ≤ n

pub IsPart-divisor : (n s : ℕ) → 1 ≤ n → 1 ≤ s → s ∣ n → IsPart n s
IsPart-divisor n s some_n some_s d = let e = div-mul_cancel s d in record { whole = e; some = positive (n / s) s n e some_n; few = below (n / s) s n e some_s }
  where
    positive : (c s n : ℕ) → c * s ≡ n → 1 ≤ n → 1 ≤ c
    positive zero s n e h = absurd (omega arith)
    positive (suc c) s n e h = omega arith

    below : (c s n : ℕ) → c * s ≡ n → 1 ≤ s → c ≤ n
    below c s n e h = omega (arith, mul-le c 1 c s (omega arith) h)

-- a time on a machine, its rate there and the speed
pub ratio_is : (p n r q s c t : ℕ) → c * s ≡ n → t ≡ p * c → r * t ≡ q → p * (n * r) ≡ q * s
ratio_is p n r q s c t whole here times = ap (λ x. p * (x * r)) (sym whole) ∙ turned p c s r ∙ ap (λ x. r * x * s) (sym here) ∙ ap (λ x. x * s) times
  where
    turned : (p c s r : ℕ) → p * (c * s * r) ≡ r * (p * c) * s
    turned p c s r = omega arith

-- ---- the lower instance
module _ (row : ℕ) (i : Instance) (e : Env) (from : kind_of i.class.env ≡ Uniform) (to : kind_of e ≡ Unrelated) (fixed : fixed_machines i.class.env ≡ fixed_machines e)
    (general : i.class.times ≡ General) (g : goes_of row i.class ≡ Some (record i.class { env = e })) (inner : Inner i) where
  abbrev n : ℕ
  n = least_common_multiple i.speeds

  abbrev lower : Instance
  lower = in_environment e i.machines [] (map (stretched n i.speeds) i.jobs) i

  speeds_are : HasSpeeds Uniform i.machines i.speeds
  speeds_are = subst (λ k. HasSpeeds k i.machines i.speeds) from inner.conditions.speeds

  pub least_is : IsLeastOfAll i.speeds n
  least_is = least_multiple i.speeds (speeds_some i.machines i.speeds speeds_are)

  pub factor_small : n ≤ GREATEST_MULTIPLE
  factor_small = least-small i.speeds n inner.conditions.multiple least_is

  pub factor_some : 1 ≤ n
  factor_some = least_is.some

  machines_some : 1 ≤ i.machines
  machines_some = inner.conditions.machines.0

  part_of : (m : ℕ) → m < length i.speeds → IsPart n (slice_index_or i.speeds m 0)
  part_of m l = IsPart-divisor n (slice_index_or i.speeds m 0) factor_some (speeds_are.1 m 0 l).0 (least_is.common m 0 l)

  machines : AreMachines e i.machines []
  machines = record {
    some = machines_some;
    few = inner.conditions.machines.1;
    fixed = subst (λ o. MatchOption o ⊤ (λ m. i.machines ≡ m)) fixed inner.conditions.machines.2;
    speeds = subst (λ k. HasSpeeds k i.machines []) (sym to) refl;
    multiple = (1, omega arith, omega arith, λ k d l. absurd (omega arith));
  }

  -- a job's time, on one machine of speed 1 and on each machine
  time_is : (a : Job) → IsJobOf (inner_limits (kind_of i.class.env)) i a → (1 ≤ only_time a) × (only_time a ≤ GREATEST)
  time_is a h =
      let s = subst (λ k. HasShape k i.class.env i.machines a.needs) from h.needs.shape in
      let t = h.needs.times 0 no_need (omega (arith, s.0)) in
      (subst₂ (λ k t. least_time k t ≤ only_time a) from general t.0, within (only_time a) (subst₂ (λ k t. only_time a ≤ greatest_time (inner_limits k) t) from general t.1))
    where
      within : (x : ℕ) → x ≤ GREATEST * 1 → x ≤ GREATEST
      within x h = omega arith

  time_there : Job → ℕ → ℕ
  time_there a m = only_time a * (n / slice_index_or i.speeds m 0)

  needs_there : (a : Job) → IsJobOf (inner_limits (kind_of i.class.env)) i a → HasNeeds (inner_limits (kind_of e)) lower (stretched n i.speeds a).needs
  needs_there a h = HasNeeds-needs_by lower (length i.speeds) (λ m. only_time a * (n / slice_index_or i.speeds m 0)) to speeds_are.0 (omega (arith, speeds_are.0, machines_some)) (λ m l.
      let t = time_is a h in let c = part_of m l in (
        mul-le 1 1 (only_time a) (n / slice_index_or i.speeds m 0) t.0 c.some,
        subst (λ t. only_time a * (n / slice_index_or i.speeds m 0) ≤ greatest_time (inner_limits Unrelated) t)
            (sym general) (mul-le (only_time a) (n / slice_index_or i.speeds m 0) GREATEST GREATEST_MULTIPLE t.1 (omega (arith, c.few, factor_small))),
      ))

  own : (a : Job) → IsJobOf (inner_limits (kind_of i.class.env)) i a → IsJobOf (inner_limits (kind_of e)) lower (stretched n i.speeds a)
  own a h = record {
    needs = needs_there a h;
    times = subst (λ t. HasSameTimes t (common_time lower) (stretched n i.speeds a).needs) (sym general) tt;
    release = subst (λ k. HasRelease (inner_limits k) i.class.heads (n * a.release))
        (sym to) (HasRelease-product n factor_small i.class.heads a.release (subst (λ k. HasRelease (inner_limits k) i.class.heads a.release) from h.release));
    due = subst (λ k. HasDue (inner_limits k) (uses_due i.class.crit) (pos n *ℤ a.due))
        (sym to) (HasDue-product n factor_small (uses_due i.class.crit) a.due (subst (λ k. HasDue (inner_limits k) (uses_due i.class.crit) a.due) from h.due));
    weight = h.weight;
    curve = subst (λ k. HasCurve (inner_limits k) (uses_curve i.class.crit) (stretched n i.speeds a).curve) (sym to)
        (HasCurve-product n factor_small (uses_curve i.class.crit) a.curve (subst (λ k. HasCurve (inner_limits k) (uses_curve i.class.crit) a.curve) from h.curve));
  }

  count : length lower.jobs ≡ length i.jobs
  count = length-map i.jobs (stretched n i.speeds)

  job_is : (a : ℕ) → a < length i.jobs → job_at lower a ≡ stretched n i.speeds (job_at i a)
  job_is a l = job_at-map i lower (stretched n i.speeds) refl a l

  near : HasNearDues (2 * GREATEST * inner_factor (kind_of e)) lower
  near = subst (λ k. HasNearDues (2 * GREATEST * inner_factor k) lower) (sym to) (HasNearDues-map _ i lower (stretched n i.speeds) refl (λ j k p q.
      near-product n factor_small (job_at i j).due (job_at i k).due (2 * GREATEST) (subst (λ k. HasNearDues (2 * GREATEST * inner_factor k) i) from inner.dues j k p q)))

  lower_inner : Inner lower
  lower_inner = Inner-in_environment i e i.machines [] (map (stretched n i.speeds) i.jobs) count machines
      (All-map (IsJobOf (inner_limits (kind_of e)) lower) (stretched n i.speeds) i.jobs (λ k d l. own (get_or i.jobs k d) (inner.conditions.jobs k d l))) near inner

  pub lower_is : IsLower row i lower
  lower_is = record { inner = lower_inner; class = g }

  -- ---- schedules
  upper_shaped : IsShaped i
  upper_shaped = IsShaped-from_conditions (inner_limits (kind_of i.class.env)) i inner.conditions

  lower_shaped : IsShaped lower
  lower_shaped = IsShaped-from_conditions (inner_limits (kind_of e)) lower lower_inner.conditions

  per_machine : All (HasTimePerMachine i.machines) lower.jobs
  per_machine = lower_shaped.unrelated to

  need_is : (a m : ℕ) → a < length i.jobs → m < i.machines → need_at lower a m ≡ record { machine = m; time = only_time (job_at i a) * (n / slice_index_or i.speeds m 0) }
  need_is a m l b = ap (λ x. slice_index_or x.needs m no_need) (job_is a l)
      ∙ get_or-needs_by (length i.speeds) (λ m. only_time (job_at i a) * (n / slice_index_or i.speeds m 0)) m no_need (omega (arith, speeds_are.0))

  rates_are : (a m : ℕ) → a < length i.jobs → m < i.machines → only_time (job_at i a) * (n * rate_on Unrelated lower a m) ≡ product_of_times (job_at lower a).needs * slice_index_or i.speeds m 0
  rates_are a m l b = ratio_is (only_time (job_at i a)) n (rate_on Unrelated lower a m)
      (product_of_times (job_at lower a).needs) (slice_index_or i.speeds m 0) (n / slice_index_or i.speeds m 0) (need_at lower a m).time
      (part_of m (omega (arith, speeds_are.0))).whole (ap (λ x. x.time) (need_is a m l b)) (rate_times lower a m per_machine (omega (arith, count)) b)

  product_some : (a : ℕ) → a < length i.jobs → 0 < product_of_times (job_at lower a).needs
  product_some a l = product_of_times-positive (job_at lower a).needs (per_machine a no_job (omega (arith, count))).1

  time_some : (a : ℕ) → a < length i.jobs → 0 < only_time (job_at i a)
  time_some a l = (time_is (job_at i a) (inner.conditions.jobs a no_job l)).0

  suits_to : (D : ℤ) → Suits (frame_by Uniform i) (frame_by Unrelated lower) D D (pos n) (λ a o. o)
  suits_to D = record {
    jobs = sym count;
    has = λ a o l h. h;
    all = λ a o l h. (o, h, refl);
    increasing = λ a o k l h w less. less;
    may = λ a o m l h w. w;
    ratio = λ a o l h. record {
      times = only_time (job_at i a);
      over = product_of_times (job_at lower a).needs;
      some = time_some a l;
      rate = λ m w. ap pos (rates_are a m l w);
      want = wants D (only_time (job_at i a)) (product_of_times (job_at lower a).needs) (need_at i a o).time (ap (λ k. (need_at i a k).time) h);
    };
    cut = λ c. c;
  }
    where
      wants : (D : ℤ) (p q t : ℕ) → t ≡ p → pos p *ℤ (D *ℤ pos q) ≡ pos q *ℤ (D *ℤ pos t)
      wants D p q t e = *ℤ_exchange (pos p) D (pos q) ∙ ap (λ k. D *ℤ pos k) (turned p q) ∙ sym (*ℤ_exchange (pos q) D (pos p)) ∙ ap (λ k. pos q *ℤ (D *ℤ pos k)) (sym e)
        where
          turned : (p q : ℕ) → p * q ≡ q * p
          turned p q = omega arith

  suits_from : (D : ℤ) → Suits (frame_by Unrelated lower) (frame_by Uniform i) D (D *ℤ pos n) (pos 1) (λ a o. o)
  suits_from D = record {
    jobs = count;
    has = λ a o l h. h;
    all = λ a o l h. (o, h, refl);
    increasing = λ a o k l h w less. less;
    may = λ a o m l h w. w;
    ratio = λ a o l h. let inside : a < length i.jobs = omega (arith, count) in record {
      times = product_of_times (job_at lower a).needs;
      over = only_time (job_at i a) * n;
      some = product_some a inside;
      rate = λ m w. ap (λ z. pos (product_of_times (job_at lower a).needs) *ℤ z) (one-*ℤ (pos (slice_index_or i.speeds m 0)))
          ∙ ap pos (sym (rates_are a m inside w) ∙ grouped (only_time (job_at i a)) n (rate_on Unrelated lower a m));
      want = wants D (only_time (job_at i a)) n (product_of_times (job_at lower a).needs) (need_at i a o).time (ap (λ k. (need_at i a k).time) h);
    };
    cut = λ c. c;
  }
    where
      grouped : (p n r : ℕ) → p * (n * r) ≡ p * n * r
      grouped p n r = omega arith

      wants : (D : ℤ) (p n q t : ℕ) → t ≡ p → pos q *ℤ ((D *ℤ pos n) *ℤ pos t) ≡ pos (p * n) *ℤ (D *ℤ pos q)
      wants D p n q t e = ap (λ z. pos q *ℤ z) (*ℤ_assoc D (pos n) (pos t))
          ∙ *ℤ_exchange (pos q) D (pos (n * t)) ∙ ap (λ k. D *ℤ pos k) (ap (λ k. q * (n * k)) e ∙ turned p n q) ∙ sym (*ℤ_exchange (pos (p * n)) D (pos q))
        where
          turned : (p n q : ℕ) → q * (n * p) ≡ p * n * q
          turned p n q = omega arith

  head_is : (a : ℕ) → a < length i.jobs → (job_at lower a).release ≡ n * (job_at i a).release
  head_is a l = ap (λ x. x.release) (job_is a l)

  -- ---- a schedule of the uniform machines, stretched
  module _ (s : Schedule) (f : Feasible i s) where
    carries_to : Carries (frame_by Uniform i) (frame_by Unrelated lower) s.unit s.unit s.pieces (pos n) (λ x. pos n *ℤ x) (λ a o. o)
    carries_to = record {
      unit = f.unit;
      moments = Stretches-factor s.pieces (pos n) (pos-le factor_some);
      operations = suits_to s.unit;
      heads = λ k d l inside h. subst (λ z. z ≤ℤ (pos n *ℤ (get_or s.pieces k d).from))
          (sym (ap (λ r. s.unit *ℤ pos r) (head_is (get_or s.pieces k d).job inside) ∙ *ℤ_exchange s.unit (pos n) (pos (job_at i (get_or s.pieces k d).job).release))) (*ℤ-mono n h);
      arcs = All-contains_itself i.arcs;
      routed = λ r. inl r;
    }

    feasible_to : Feasible lower (stretched_schedule n s)
    feasible_to = Feasible-carried i lower s Uniform Unrelated from to s.unit (pos n) (λ x. pos n *ℤ x) (λ a o. o) upper_shaped f carries_to lower_shaped

    ends_to : (a : ℕ) → end_of (stretched_schedule n s) a ≡ pos n *ℤ end_of s a
    ends_to = end_of-carried i lower s Uniform Unrelated from to s.unit (pos n) (λ x. pos n *ℤ x) (λ a o. o) upper_shaped f carries_to

  -- ---- a schedule of the unrelated machines, over a greater unit
  module _ (t : Schedule) (f : Feasible lower t) where
    carries_from : Carries (frame_by Unrelated lower) (frame_by Uniform i) t.unit (t.unit *ℤ pos n) t.pieces (pos 1) (λ x. x) (λ a o. o)
    carries_from = record {
      unit = more t.unit n f.unit factor_some;
      moments = Stretches-identity t.pieces;
      operations = suits_from t.unit;
      heads = λ k d l inside h. subst (λ z. z ≤ℤ (get_or t.pieces k d).from)
          (ap (λ r. t.unit *ℤ pos r) (head_is (get_or t.pieces k d).job (omega (arith, count))) ∙ sym (*ℤ_assoc t.unit (pos n) (pos (job_at i (get_or t.pieces k d).job).release))) h;
      arcs = All-contains_itself i.arcs;
      routed = λ r. inl r;
    }
      where
        more : (x : ℤ) (n : ℕ) → pos 1 ≤ℤ x → 1 ≤ n → pos 1 ≤ℤ (x *ℤ pos n)
        more (negsuc x) n h l = absurd (omega (arith, ints))
        more (pos x) n h l = pos-le (mul-le 1 1 x n (le-pos h) l)

    pub feasible_from : Feasible i (shrunk_schedule n t)
    feasible_from = subst (λ l. Feasible i (record { unit = t.unit *ℤ pos n; pieces = l })) (map-id t.pieces)
        (Feasible-carried lower i t Unrelated Uniform to from (t.unit *ℤ pos n) (pos 1) (λ x. x) (λ a o. o) lower_shaped f carries_from upper_shaped)

  -- ---- costs
  abbrev factor : ℕ
  factor = cost_factor i.class.crit n

  cost_from : (t : Schedule) → pos factor *ℤ cost_of i (shrunk_schedule n t) ≡ pos n *ℤ cost_of lower t
  cost_from t = cost-multiple i lower (shrunk_schedule n t) t (pos factor) (pos n) (pos-le (omega arith)) (pos-le (omega arith)) refl (sym count) (λ k l.
      job_cost-stretched n i.speeds t.unit (end_of t k) i.class.crit (job_at i k)
      ∙ ap (λ a. pos n *ℤ job_cost i.class.crit t.unit a (end_of t k)) (sym (job_is k l)))

  cost_to : (s : Schedule) → Feasible i s → cost_of lower (stretched_schedule n s) ≡ pos factor *ℤ cost_of i s
  cost_to s f = sym (one-*ℤ (cost_of lower (stretched_schedule n s)))
      ∙ sym (cost-multiple i lower s (stretched_schedule n s) (pos factor) (pos 1) (pos-le (omega arith)) (pos-le (omega arith)) refl (sym count) (λ k l.
      charge k l ∙ sym (one-*ℤ (charge_of lower (stretched_schedule n s) k))))
    where
      charge : (k : ℕ) → k < length i.jobs → pos factor *ℤ charge_of i s k ≡ charge_of lower (stretched_schedule n s) k
      charge k l = *ℤ-cancel_same n factor_some (
          *ℤ_exchange (pos n) (pos factor) (charge_of i s k)
          ∙ ap (λ z. pos factor *ℤ z) (sym (job_cost-scale n factor_some s.unit i.class.crit (job_at i k) (end_of s k)))
          ∙ ap₂ (λ u x. pos factor *ℤ job_cost i.class.crit u (job_at i k) x) (*ℤ_comm (pos n) s.unit) (sym (ends_to s f k))
          ∙ job_cost-stretched n i.speeds s.unit (end_of (stretched_schedule n s) k) i.class.crit (job_at i k)
          ∙ ap (λ a. pos n *ℤ job_cost i.class.crit s.unit a (end_of (stretched_schedule n s) k)) (sym (job_is k l)))

  -- ---- the law
  abbrev rate : Rate
  rate = speed_rate i

  translated : (x : ℤ) (u : ℤ) → x +ℤ (pos 0 *ℤ u) ≡ x
  translated x u = ap (λ z. x +ℤ z) (zero-*ℤ u) ∙ +ℤ_idr x

  pub IsForth-stretched : (s : Schedule) → IsForth rate i lower s (stretched_schedule n s)
  IsForth-stretched s f = (feasible_to s f, ≤ℤ_of_same (ap (λ z. z *ℤ s.unit) (one-*ℤ (cost_of lower (stretched_schedule n s)) ∙ cost_to s f ∙ sym (translated (pos factor *ℤ cost_of i s) s.unit))))

  pub IsBack-shrunk : (t : Schedule) → IsBack rate i lower t (shrunk_schedule n t)
  IsBack-shrunk t f = (
    feasible_from t f,
    ≤ℤ_of_same (
        ap (λ z. z *ℤ t.unit) (translated (pos factor *ℤ cost_of i (shrunk_schedule n t)) (t.unit *ℤ pos n) ∙ cost_from t)
        ∙ spread n (cost_of lower t) t.unit ∙ ap (λ z. z *ℤ (t.unit *ℤ pos n)) (sym (one-*ℤ (cost_of lower t)))),
  )
    where
      spread : (n : ℕ) (y u : ℤ) → (pos n *ℤ y) *ℤ u ≡ y *ℤ (u *ℤ pos n)
      spread n y u = *ℤ_assoc (pos n) y u ∙ *ℤ_comm (pos n) (y *ℤ u) ∙ *ℤ_assoc y u (pos n)

  pub IsPositive-speeds : IsPositive rate
  IsPositive-speeds = record { factor = some i.class.crit; scale = omega arith }
    where
      some : (c : Crit) → 1 ≤ cost_factor c n
      some SumU = omega arith
      some SumWU = omega arith
      some _ = factor_some

-- ---- the two rows
-- what the law says, and how large the factor may be
pub record IsLedBySpeeds (row : ℕ) (i j : Instance) : Type 0 where
  pub lower : IsLower row i j
  pub rate : IsPositive (speed_rate i)
  pub forth : (s : Schedule) → IsForth (speed_rate i) i j s (stretched_schedule (least_common_multiple i.speeds) s)
  pub back : (t : Schedule) → IsBack (speed_rate i) i j t (shrunk_schedule (least_common_multiple i.speeds) t)
  pub from : kind_of i.class.env ≡ Uniform
  pub to : kind_of j.class.env ≡ Unrelated
  pub some : 1 ≤ least_common_multiple i.speeds
  pub small : least_common_multiple i.speeds ≤ GREATEST_MULTIPLE

led_there : (row : ℕ) (i : Instance) (e : Env) → kind_of i.class.env ≡ Uniform → kind_of e ≡ Unrelated → fixed_machines i.class.env ≡ fixed_machines e
    → i.class.times ≡ General → goes_of row i.class ≡ Some (record i.class { env = e }) → Inner i → IsLedBySpeeds row i (led_by_speeds row i)
led_there row i e from to fixed general g inner =
    subst (IsLedBySpeeds row i) (sym (ap (λ o. record i { class = unwrap_or o i.class; speeds = []; jobs = map (stretched (least_common_multiple i.speeds) i.speeds) i.jobs }) g)) (record {
      lower = lower_is row i e from to fixed general g inner;
      rate = IsPositive-speeds row i e from to fixed general g inner;
      forth = IsForth-stretched row i e from to fixed general g inner;
      back = IsBack-shrunk row i e from to fixed general g inner;
      from = from;
      to = to;
      some = factor_some row i e from to fixed general g inner;
      small = factor_small row i e from to fixed general g inner;
    })

pub led_26 : (i : Instance) → Inner i → Applies 26 i → IsLedBySpeeds 26 i (led_by_speeds 26 i)
unfolding goes_of table
led_26 i inner h = let (b, c, g) = part_and_condition _ _ _ h in let e = env_number-injective _ Q (eqb-true _ _ b) in
    led_there 26 i R (ap kind_of e) refl (ap fixed_machines e) (times_number-injective _ General (eqb-true _ _ c)) g inner

pub led_27 : (i : Instance) → Inner i → Applies 27 i → IsLedBySpeeds 27 i (led_by_speeds 27 i)
unfolding goes_of table
led_27 i inner h = let (b, c, g) = part_and_condition _ _ _ h in let e = env_number-injective _ Q2 (eqb-true _ _ b) in
    led_there 27 i R2 (ap kind_of e) refl (ap fixed_machines e) (times_number-injective _ General (eqb-true _ _ c)) g inner
