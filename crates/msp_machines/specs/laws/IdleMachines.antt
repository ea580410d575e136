-- The rows that lead to a shop with one more machine, on which no job takes time: the same schedules are feasible.
use Rattle.std.proofs.Common.{◌≡◌, ◌≢◌, ℕ, ◌+◌, ◌*◌, ◌<◌, ◌≤◌, Bool, true, false, not, ltb, List, [], ◌∷◌, ◌++◌, length, All, Any, Contains, ◌⊎◌, inl, inr, Some, None, MatchOption}
use Rattle.std.proofs.Common.{slice_index_or, refl, sym, ap, ap₂, subst, ◌∙◌, arith}
use Rattle.std.specs.Prelude.{◌↔◌, unwrap_or, map, Option, ⊤}
use Rattle.std.proofs.lemmas.Bool.{eqb-true, ltb-true, ltb-false}
use Rattle.std.proofs.lemmas.List.{length-map, length_push, get_or_push, get_or_append_left}
use Rattle.std.proofs.lemmas.List.Elements.{All-push, All-contains_itself}
use Rattle.msp_class.specs.declared.class.Env.{Env}
use Rattle.msp_class.specs.declared.class.Env.TheVariants.{One, O2, O3, F2, F3}
use Rattle.msp_class.specs.declared.class.Times.TheVariants.{General}
use Rattle.msp_class.specs.declared.environments.EnvKind.{EnvKind}
use Rattle.msp_class.specs.declared.environments.EnvKind.TheVariants.{Identical, Uniform, Unrelated, OpenShop, FlowShop, JobShop}
use Rattle.msp_class.specs.Env.{kind_of, fixed_machines, is_mirror_kind}
use Rattle.msp_class.proofs.EnvNumbers.{env_number-injective}
use Rattle.msp_class.proofs.IntegerRing.{≤ℤ_of_same}
use Rattle.msp_class.proofs.RankLemmas.{times_number-injective}
use Rattle.msp_class.specs.declared.sizes.TheConstants.{MOST_MACHINES, GREATEST, GREATEST_UNIT}
use Rattle.msp_instance.specs.declared.Need.{Need}
use Rattle.msp_instance.specs.declared.Instance.{Instance}
use Rattle.msp_instance.specs.Instance.{no_need, no_job, job_at, need_at, common_time}
use Rattle.msp_instance.specs.Conditions.{Limits, HasSpeeds, HasShape, HasTimes, HasNeeds, HasSameTimes, IsSingleNeed, IsNeedPerMachine, Inner, inner_limits, inner_factor, least_time, greatest_time}
use Rattle.msp_pieces.specs.Feasible.{HasOperation, MayRun, whole_work}
use Rattle.msp_pieces.proofs.feasible.Frames.{frame_by, frame_of, rate_on, job_at-map}
use Rattle.msp_pieces.proofs.changes.Serves.{IsMultiple-same, Serves}
use Rattle.msp_pieces.proofs.costs.Charges.{SameCharges-from_map, job_cost-reads}
use Rattle.msp_table.specs.Parts.{EnvIs, has}
use Rattle.msp_table.specs.Rows.{goes_of, table, general_times}
use Rattle.msp_route.specs.Law.{Applies}
use Rattle.msp_route.specs.Bounds.{greatest_unit}
use Rattle.msp_route.specs.Stays.{SchedulesStay}
use Rattle.msp_route.proofs.Applied.{part_and_condition}
use Rattle.msp_machines.specs.Shops.{with_idle_operation, with_idle_machine}
use Rattle.msp_machines.specs.laws.InnerMachines.{in_environment, with_needs, Inner-with_needs, AreWithin-any}
use Rattle.msp_machines.specs.laws.Served.{ServesBoth, stay-served}

-- ---- needs with one more, of time 0
abbrev idle : ℕ → Need
idle m = record { machine = m; time = 0 }

abbrev widened : ℕ → List Need → List Need
widened m ns = ns ++ idle m ∷ []

abbrev HasTime : ℕ → List Need → Type 0
HasTime o ns = (o < length ns) × ((slice_index_or ns o no_need).time ≢ 0)

need_kept : (m o : ℕ) (ns : List Need) → o < length ns → slice_index_or (widened m ns) o no_need ≡ slice_index_or ns o no_need
need_kept m o ns l = get_or_append_left ns (idle m ∷ []) no_need o l

has_wider : (m o : ℕ) (ns : List Need) → HasTime o ns → HasTime o (widened m ns)
has_wider m o ns h = (omega (arith, length_push ns (idle m), h.0), subst (λ n. n.time ≢ 0) (sym (need_kept m o ns h.0)) h.1)

has_narrower : (m o : ℕ) (ns : List Need) → HasTime o (widened m ns) → HasTime o ns
has_narrower m o ns h = by (ltb o (length ns)) refl
  where
    by : (b : Bool) → ltb o (length ns) ≡ b → HasTime o ns
    by true e = let l = ltb-true o (length ns) e in (l, subst (λ n. n.time ≢ 0) (need_kept m o ns l) h.1)
    by false e =
        let last : length ns ≡ o = omega (arith, h.0, length_push ns (idle m), ltb-false o (length ns) e) in
        absurd (h.1 (ap (λ n. n.time) (get_or_push ns (idle m) no_need o last)))

shape_wider : (m : ℕ) (ns : List Need) → IsNeedPerMachine m ns → IsNeedPerMachine (m + 1) (widened m ns)
shape_wider m ns h = (length_push ns (idle m) ∙ ap (λ k. k + 1) h.0, λ k l. by k l (ltb k (length ns)) refl)
  where
    by : (k : ℕ) → k < length (widened m ns) → (b : Bool) → ltb k (length ns) ≡ b → (slice_index_or (widened m ns) k no_need).machine ≡ k
    by k l true e = let inside = ltb-true k (length ns) e in ap (λ n. n.machine) (need_kept m k ns inside) ∙ h.1 k inside
    by k l false e =
        let last : length ns ≡ k = omega (arith, l, length_push ns (idle m), ltb-false k (length ns) e) in
        ap (λ n. n.machine) (get_or_push ns (idle m) no_need k last) ∙ sym h.0 ∙ last

some_wider : (m : ℕ) (ns : List Need) → Any (λ n. 1 ≤ n.time) ns → Any (λ n. 1 ≤ n.time) (widened m ns)
some_wider m ns (k, x, l, e, p) = (k, x, omega (arith, length_push ns (idle m)), get_or_append_left ns (idle m ∷ []) x k l ∙ e, p)

-- ---- instances with the same operations
-- the operations that take time, their machines and their times are the same
record SameTimes (k l : EnvKind) (i j : Instance) : Type 0 where
  has : (a o : ℕ) → a < length i.jobs → HasOperation k i a o → HasOperation l j a o
  all : (a o : ℕ) → a < length i.jobs → HasOperation l j a o → HasOperation k i a o
  may : (a o m : ℕ) → a < length i.jobs → HasOperation k i a o → MayRun k i a o m → MayRun l j a o m
  may_back : (a o m : ℕ) → a < length i.jobs → HasOperation k i a o → MayRun l j a o m → MayRun k i a o m
  time : (a o : ℕ) → a < length i.jobs → HasOperation k i a o → whole_work l j a o ≡ whole_work k i a o
  rate : (a m : ℕ) → rate_on l j a m ≡ rate_on k i a m

abbrev IsRouted : EnvKind → Type 0
IsRouted k = not (is_mirror_kind k) ≡ true

abbrev HasOneEach : EnvKind → Instance → Type 0
HasOneEach k i = (a o n : ℕ) → a < length i.jobs → HasOperation k i a o → HasOperation k i a n → o ≡ n

module _ (k l : EnvKind) (i j : Instance) (s : SameTimes k l i j) (cut : i.class.cut ≡ j.class.cut) (count : length i.jobs ≡ length j.jobs)
    (heads : (a : ℕ) → a < length i.jobs → (job_at j a).release ≡ (job_at i a).release) (arcs : i.arcs ≡ j.arcs) where
  serves_down : (IsRouted l → IsRouted k ⊎ HasOneEach k i) → Serves (frame_by k i) (frame_by l j)
  serves_down routed = record {
    operations = record {
      jobs = count;
      has = s.has;
      all = s.all;
      may = s.may;
      ratio = λ a o inside h. IsMultiple-same (frame_by k i) (frame_by l j) a o (λ m w. s.rate a m) (s.time a o inside h);
      cut = λ e. cut ∙ e;
    };
    heads = λ a inside. omega (arith, heads a inside);
    arcs = subst (λ x. All (Contains i.arcs) x) arcs (All-contains_itself i.arcs);
    routed = routed;
  }

  serves_up : (IsRouted k → IsRouted l) → Serves (frame_by l j) (frame_by k i)
  serves_up routed = record {
    operations = record {
      jobs = sym count;
      has = λ a o inside h. s.all a o (omega (arith, count)) h;
      all = λ a o inside h. s.has a o (omega (arith, count)) h;
      may = λ a o m inside h w. let l : a < length i.jobs = omega (arith, count) in s.may_back a o m l (s.all a o l h) w;
      ratio = λ a o inside h. let b : a < length i.jobs = omega (arith, count) in IsMultiple-same (frame_by l j) (frame_by k i) a o (λ m w. sym (s.rate a m)) (sym (s.time a o b (s.all a o b h)));
      cut = λ e. sym cut ∙ e;
    };
    heads = λ a inside. omega (arith, heads a (omega (arith, count)));
    arcs = subst (λ x. All (Contains j.arcs) x) (sym arcs) (All-contains_itself j.arcs);
    routed = λ e. inl (routed e);
  }

-- ---- one machine more
-- the jobs of one instance have those of the other, and on one machine more an operation of time 0
record IsWidened (from to : Env) (m : ℕ) (i j : Instance) : Type 0 where
  machines : i.machines ≡ m
  needs : (a : ℕ) → a < length i.jobs → (job_at j a).needs ≡ widened m (job_at i a).needs
  shape : (a : ℕ) → a < length i.jobs → HasShape (kind_of from) from m (job_at i a).needs
  times : (a : ℕ) → a < length i.jobs → All (λ n. least_time (kind_of from) General ≤ n.time) (job_at i a).needs

-- what the two environments have to do with each other
record Widens (from to : Env) (m : ℕ) : Type 0 where
  from_machines : fixed_machines from ≡ Some m
  to_machines : fixed_machines to ≡ Some (m + 1)
  few : m + 1 ≤ MOST_MACHINES
  speeds : (s : List ℕ) → HasSpeeds (kind_of from) m s → HasSpeeds (kind_of to) (m + 1) s
  factor : inner_factor (kind_of from) ≡ 1
  factor_to : inner_factor (kind_of to) ≡ 1
  units : greatest_unit (kind_of from) ≡ greatest_unit (kind_of to)
  least : least_time (kind_of to) General ≡ 0
  shape : (ns : List Need) → HasShape (kind_of from) from m ns → IsNeedPerMachine m ns
  shape_to : (ns : List Need) → IsNeedPerMachine (m + 1) ns → HasShape (kind_of to) to (m + 1) ns
  same : (i j : Instance) → IsWidened from to m i j → SameTimes (kind_of from) (kind_of to) i j
  routed_down : (i : Instance) → IsRouted (kind_of to) → IsRouted (kind_of from) ⊎ HasOneEach (kind_of from) i
  routed_up : IsRouted (kind_of from) → IsRouted (kind_of to)

module _ (from to : Env) (m : ℕ) (w : Widens from to m) (i : Instance) (of_from : i.class.env ≡ from) (general : i.class.times ≡ General) (inner : Inner i) where
  abbrev lower : Instance
  lower = in_environment to (m + 1) i.speeds (map (with_needs (widened m)) i.jobs) i

  abbrev limits : Limits
  limits = inner_limits (kind_of i.class.env)

  kind : kind_of i.class.env ≡ kind_of from
  kind = ap kind_of of_from

  machines : i.machines ≡ m
  machines = by (fixed_machines i.class.env) (ap fixed_machines of_from ∙ w.from_machines) inner.conditions.machines.2
    where
      by : (o : Option ℕ) → o ≡ Some m → MatchOption o ⊤ (λ k. i.machines ≡ k) → i.machines ≡ m
      by (Some k) e h = h ∙ cc
      by None e h = absurd (cc)

  job_is : (a : ℕ) → a < length i.jobs → job_at lower a ≡ with_needs (widened m) (job_at i a)
  job_is a l = job_at-map i lower (with_needs (widened m)) refl a l

  old_shape : (ns : List Need) → HasNeeds limits i ns → HasShape (kind_of from) from m ns
  old_shape ns h = subst (λ k. HasShape (kind_of from) from k ns) machines (subst (λ e. HasShape (kind_of e) e i.machines ns) of_from h.shape)

  old_times : (ns : List Need) → HasNeeds limits i ns → HasTimes (least_time (kind_of from) General) (GREATEST * inner_factor (kind_of i.class.env)) ns
  old_times ns h = subst (λ k. HasTimes (least_time k General) (GREATEST * inner_factor (kind_of i.class.env)) ns)
      kind (subst (λ t. HasTimes (least_time (kind_of i.class.env) t) (greatest_time limits t) ns) general h.times)

  own : (ns : List Need) → HasNeeds limits i ns → HasSameTimes i.class.times (common_time i) ns
      → HasNeeds (inner_limits (kind_of to)) lower (widened m ns) × HasSameTimes i.class.times (common_time lower) (widened m ns)
  own ns h _ = (
    record {
      shape = w.shape_to (widened m ns) (shape_wider m ns (w.shape ns (old_shape ns h)));
      times = subst (λ t. HasTimes (least_time (kind_of to) t) (greatest_time (inner_limits (kind_of to)) t) (widened m ns)) (sym general)
          (All-push (λ n. (least_time (kind_of to) General ≤ n.time) × (n.time ≤ GREATEST * inner_factor (kind_of to))) ns (idle m)
          (λ k d l. (omega (arith, w.least), omega (arith, (old_times ns h k d l).1, ap inner_factor kind, w.factor, w.factor_to))) (omega (arith, w.least), omega arith));
      some = some_wider m ns h.some;
    },
    subst (λ t. HasSameTimes t (common_time lower) (widened m ns)) (sym general) tt,
  )

  widened_is : IsWidened from to m i lower
  widened_is = record {
    machines = machines;
    needs = λ a l. ap (λ x. x.needs) (job_is a l);
    shape = λ a l. old_shape (job_at i a).needs (inner.conditions.jobs a no_job l).needs;
    times = λ a l k d b. (old_times (job_at i a).needs (inner.conditions.jobs a no_job l).needs k d b).0;
  }

  Inner-widened : Inner lower
  Inner-widened = Inner-with_needs i to (m + 1) i.speeds (widened m) (AreWithin-any (kind_of i.class.env) (kind_of to) (ap inner_factor kind ∙ w.factor)) (record {
    some = omega arith;
    few = w.few;
    fixed = subst (λ o. MatchOption o ⊤ (λ k. m + 1 ≡ k)) (sym w.to_machines) refl;
    speeds = w.speeds i.speeds (subst (λ k. HasSpeeds (kind_of from) k i.speeds) machines (subst (λ k. HasSpeeds k i.machines i.speeds) kind inner.conditions.speeds));
    multiple = inner.conditions.multiple;
  }) own inner

  ServesBoth-widened : (row : ℕ) → goes_of row i.class ≡ Some lower.class → ServesBoth row i lower
  ServesBoth-widened row goes = record {
    lower = record { inner = Inner-widened; class = goes };
    down = subst (λ k. Serves (frame_by k i) (frame_of lower)) (sym kind) (serves_down (kind_of from) (kind_of to) i lower same refl long heads refl (w.routed_down i));
    up = subst (λ k. Serves (frame_of lower) (frame_by k i)) (sym kind) (serves_up (kind_of from) (kind_of to) i lower same refl long heads refl w.routed_up);
    charges = SameCharges-from_map i lower (with_needs (widened m)) refl refl (λ a unit x u p. job_cost-reads i.class.crit unit a (with_needs (widened m) a) x refl refl refl);
    units = ≤ℤ_of_same (sym (ap greatest_unit kind ∙ w.units));
  }
    where
      same : SameTimes (kind_of from) (kind_of to) i lower
      same = w.same i lower widened_is

      long : length i.jobs ≡ length lower.jobs
      long = sym (length-map i.jobs (with_needs (widened m)))

      heads : (a : ℕ) → a < length i.jobs → (job_at lower a).release ≡ (job_at i a).release
      heads a l = ap (λ x. x.release) (job_is a l)

  -- the same with the numbers of the instance
  ServesBoth-led : (row : ℕ) → goes_of row i.class ≡ Some lower.class → ServesBoth row i (with_idle_machine row i)
  ServesBoth-led row goes =
      subst (ServesBoth row i)
      (sym (ap₂ (λ o k. record i { class = unwrap_or o i.class; machines = k + 1; jobs = map (with_idle_operation k) i.jobs }) goes machines))
      (ServesBoth-widened row goes)

-- ---- open shops and flow shops
-- each job has a need for each machine, and an operation for each need that takes time, which runs there
record IsShop (k : EnvKind) : Type 0 where
  has : (i : Instance) (a o : ℕ) → HasOperation k i a o ↔ HasTime o (job_at i a).needs
  may : (i : Instance) (a o m : ℕ) → MayRun k i a o m ↔ (m ≡ (need_at i a o).machine)
  time : (i : Instance) (a o : ℕ) → whole_work k i a o ≡ (need_at i a o).time
  rate : (i : Instance) (a m : ℕ) → rate_on k i a m ≡ 1
  shape : (e : Env) (m : ℕ) (ns : List Need) → HasShape k e m ns ↔ IsNeedPerMachine m ns
  speeds : (m : ℕ) (s : List ℕ) → HasSpeeds k m s ↔ (s ≡ [])
  factor : inner_factor k ≡ 1
  units : greatest_unit k ≡ GREATEST_UNIT
  least : least_time k General ≡ 0

as_it_is : {A : Type 0} → A ↔ A
as_it_is = ((λ h. h), (λ h. h))

abbrev is_plain_shop : EnvKind → Bool
is_plain_shop OpenShop = true
is_plain_shop FlowShop = true
is_plain_shop _ = false

shop : (k : EnvKind) → is_plain_shop k ≡ true → IsShop k
shop Identical e = absurd (cc)
shop Uniform e = absurd (cc)
shop Unrelated e = absurd (cc)
shop JobShop e = absurd (cc)
shop _ e = record {
  has = λ i a o. as_it_is;
  may = λ i a o m. as_it_is;
  time = λ i a o. refl;
  rate = λ i a m. refl;
  shape = λ e m ns. as_it_is;
  speeds = λ m s. as_it_is;
  factor = refl;
  units = refl;
  least = refl;
}

-- ---- from one machine
module _ (i j : Instance) (to : Env) (v : IsWidened One to 1 i j) (shop : IsShop (kind_of to)) where
  single_at : (a : ℕ) → a < length i.jobs → IsSingleNeed (job_at i a).needs
  single_at a l = v.shape a l

  single_has : (a o : ℕ) → a < length i.jobs → o ≡ 0 → HasTime o (job_at j a).needs
  single_has a o l h = subst (HasTime o) (sym (v.needs a l)) (has_wider 1 o (job_at i a).needs (inside, positive))
    where
      inside : o < length (job_at i a).needs
      inside = omega (arith, (single_at a l).0)

      positive : (slice_index_or (job_at i a).needs o no_need).time ≢ 0
      positive e = omega (arith, v.times a l o no_need inside)

  single_all : (a o : ℕ) → a < length i.jobs → HasTime o (job_at j a).needs → o ≡ 0
  single_all a o l h = omega (arith, (has_narrower 1 o (job_at i a).needs (subst (HasTime o) (v.needs a l) h)).0, (single_at a l).0)

  single_need : (a o : ℕ) → a < length i.jobs → o ≡ 0 → need_at j a o ≡ need_at i a o
  single_need a o l h = ap (λ ns. slice_index_or ns o no_need) (v.needs a l) ∙ need_kept 1 o (job_at i a).needs (omega (arith, (single_at a l).0))

  single_machine : (a o : ℕ) → a < length i.jobs → o ≡ 0 → (need_at j a o).machine ≡ 0
  single_machine a o l h = ap (λ n. n.machine) (single_need a o l h) ∙ (single_at a l).1 o no_need (omega (arith, (single_at a l).0))

  single_may : (a o m : ℕ) → a < length i.jobs → o ≡ 0 → (m < i.machines) ↔ (m ≡ (need_at j a o).machine)
  single_may a o m l h = ((λ w. omega (arith, single_machine a o l h, v.machines)), (λ w. omega (arith, single_machine a o l h, v.machines)))

  single_same : SameTimes Identical (kind_of to) i j
  single_same = record {
    has = λ a o l h. (shop.has j a o).1 (single_has a o l h);
    all = λ a o l h. single_all a o l ((shop.has j a o).0 h);
    may = λ a o m l h w. (shop.may j a o m).1 ((single_may a o m l h).0 w);
    may_back = λ a o m l h w. (single_may a o m l h).1 ((shop.may j a o m).0 w);
    time = λ a o l h. shop.time j a o ∙ ap (λ n. n.time) (single_need a o l h);
    rate = λ a m. shop.rate j a m;
  }

single_per_machine : (ns : List Need) → IsSingleNeed ns → IsNeedPerMachine 1 ns
single_per_machine ns h = (h.0, λ k l. h.1 k no_need l ∙ omega (arith, h.0))

from_one : (to : Env) → fixed_machines to ≡ Some 2 → IsShop (kind_of to) → Widens One to 1
from_one to two shop = record {
  from_machines = refl;
  to_machines = two;
  few = omega arith;
  speeds = λ s h. (shop.speeds 2 s).1 h;
  factor = refl;
  factor_to = shop.factor;
  units = sym shop.units;
  least = shop.least;
  shape = single_per_machine;
  shape_to = λ ns h. (shop.shape to 2 ns).1 h;
  same = λ i j v. single_same i j to v shop;
  routed_down = λ i e. inr (λ a o n l h k. h ∙ sym k);
  routed_up = λ e. absurd (cc);
}

-- ---- from two machines
module _ (i j : Instance) (from to : Env) (v : IsWidened from to 2 i j) (above : IsShop (kind_of from)) (below : IsShop (kind_of to)) where
  pair_has : (a o : ℕ) → a < length i.jobs → HasTime o (job_at i a).needs → HasTime o (job_at j a).needs
  pair_has a o l h = subst (HasTime o) (sym (v.needs a l)) (has_wider 2 o (job_at i a).needs h)

  pair_all : (a o : ℕ) → a < length i.jobs → HasTime o (job_at j a).needs → HasTime o (job_at i a).needs
  pair_all a o l h = has_narrower 2 o (job_at i a).needs (subst (HasTime o) (v.needs a l) h)

  pair_need : (a o : ℕ) → a < length i.jobs → HasTime o (job_at i a).needs → need_at j a o ≡ need_at i a o
  pair_need a o l h = ap (λ ns. slice_index_or ns o no_need) (v.needs a l) ∙ need_kept 2 o (job_at i a).needs h.0

  pair_machine : (a o : ℕ) → a < length i.jobs → HasTime o (job_at i a).needs → (need_at j a o).machine ≡ (need_at i a o).machine
  pair_machine a o l h = ap (λ n. n.machine) (pair_need a o l h)

  pair_same : SameTimes (kind_of from) (kind_of to) i j
  pair_same = record {
    has = λ a o l h. (below.has j a o).1 (pair_has a o l ((above.has i a o).0 h));
    all = λ a o l h. (above.has i a o).1 (pair_all a o l ((below.has j a o).0 h));
    may = λ a o m l h w. (below.may j a o m).1 ((above.may i a o m).0 w ∙ sym (pair_machine a o l ((above.has i a o).0 h)));
    may_back = λ a o m l h w. (above.may i a o m).1 ((below.may j a o m).0 w ∙ pair_machine a o l ((above.has i a o).0 h));
    time = λ a o l h. below.time j a o ∙ ap (λ n. n.time) (pair_need a o l ((above.has i a o).0 h)) ∙ sym (above.time i a o);
    rate = λ a m. below.rate j a m ∙ sym (above.rate i a m);
  }

from_two : (from to : Env) → fixed_machines from ≡ Some 2 → fixed_machines to ≡ Some 3 → kind_of from ≡ kind_of to → IsShop (kind_of from) → Widens from to 2
from_two from to two three kinds above = let below = subst IsShop kinds above in record {
  from_machines = two;
  to_machines = three;
  few = omega arith;
  speeds = λ s h. (below.speeds 3 s).1 ((above.speeds 2 s).0 h);
  factor = above.factor;
  factor_to = below.factor;
  units = above.units ∙ sym below.units;
  least = below.least;
  shape = λ ns h. (above.shape from 2 ns).0 h;
  shape_to = λ ns h. (below.shape to 3 ns).1 h;
  same = λ i j v. pair_same i j from to v above below;
  routed_down = λ i e. inl (subst IsRouted (sym kinds) e);
  routed_up = λ e. subst IsRouted kinds e;
}

-- ---- the rows
stay_widened : (row : ℕ) (from to : Env) (m : ℕ) → Widens from to m → (i : Instance) → Inner i
    → (has i.class (EnvIs from) ≡ true) × (general_times i.class ≡ true) × (goes_of row i.class ≡ Some (record i.class { env = to })) → SchedulesStay row i (with_idle_machine row i)
stay_widened row from to m w i inner (b, g, e) =
    stay-served (ServesBoth-led from to m w i (env_number-injective _ from (eqb-true _ _ b)) (times_number-injective _ General (eqb-true _ _ g)) inner row e) inner

pub stay_28 : (i : Instance) → Inner i → Applies 28 i → SchedulesStay 28 i (with_idle_machine 28 i)
unfolding goes_of table
stay_28 i inner h = stay_widened 28 One F2 1 (from_one F2 refl (shop FlowShop refl)) i inner (part_and_condition _ _ _ h)

pub stay_29 : (i : Instance) → Inner i → Applies 29 i → SchedulesStay 29 i (with_idle_machine 29 i)
unfolding goes_of table
stay_29 i inner h = stay_widened 29 One O2 1 (from_one O2 refl (shop OpenShop refl)) i inner (part_and_condition _ _ _ h)

pub stay_30 : (i : Instance) → Inner i → Applies 30 i → SchedulesStay 30 i (with_idle_machine 30 i)
unfolding goes_of table
stay_30 i inner h = stay_widened 30 F2 F3 2 (from_two F2 F3 refl refl refl (shop FlowShop refl)) i inner (part_and_condition _ _ _ h)

pub stay_31 : (i : Instance) → Inner i → Applies 31 i → SchedulesStay 31 i (with_idle_machine 31 i)
unfolding goes_of table
stay_31 i inner h = stay_widened 31 O2 O3 2 (from_two O2 O3 refl refl refl (shop OpenShop refl)) i inner (part_and_condition _ _ _ h)
