-- The rows from identical machines that leave the jobs as they are: to machines of equal speeds, and from one machine to shops.
use Rattle.std.proofs.Common.{◌≡◌, ◌≢◌, ℕ, ◌*◌, ◌<◌, ◌≤◌, true, List, [], length, MatchOption, inr, Some, unwrap_or, refl, sym, ap, subst, subst₂, ◌∙◌, arith}
use Rattle.std.specs.Bool.{⊤}
use Rattle.std.proofs.lemmas.Bool.{eqb-true}
use Rattle.std.proofs.lemmas.List.{length-replicate, get_or-replicate}
use Rattle.std.proofs.lemmas.List.Elements.{All-replicate, All-contains_itself}
use Rattle.msp_class.specs.declared.class.Env.{Env}
use Rattle.msp_class.specs.declared.class.Env.TheVariants.{One, P2, P, Q2, Q, O, F, J2Short}
use Rattle.msp_class.specs.declared.class.Times.{Times}
use Rattle.msp_class.specs.declared.class.Times.TheVariants.{General, Equal}
use Rattle.msp_class.specs.declared.environments.EnvKind.{EnvKind}
use Rattle.msp_class.specs.declared.environments.EnvKind.TheVariants.{Identical, Uniform, Unrelated, OpenShop, FlowShop, JobShop}
use Rattle.msp_class.specs.declared.sizes.TheConstants.{MOST_MACHINES, MOST_SHORT_OPERATIONS, GREATEST_SPEED}
use Rattle.msp_class.specs.Env.{kind_of, fixed_machines, is_shop_kind}
use Rattle.msp_class.proofs.EnvNumbers.{env_number-injective}
use Rattle.msp_class.proofs.IntegerRing.{≤ℤ_of_same}
use Rattle.msp_instance.specs.declared.Need.{Need}
use Rattle.msp_instance.specs.declared.Instance.{Instance}
use Rattle.msp_instance.specs.Instance.{no_need, no_job, job_at, need_at}
use Rattle.msp_instance.specs.Conditions.{HasNeeds, HasShape, HasSpeeds, HasTimes, IsSingleNeed, IsNeedPerMachine, IsRoute, Inner, inner_limits, inner_factor, least_time}
use Rattle.msp_instance.specs.Conditions.{least_shop_time, greatest_time}
use Rattle.msp_pieces.specs.Feasible.{HasOperation, MayRun, whole_work}
use Rattle.msp_pieces.proofs.costs.Charges.{SameCharges-from_jobs}
use Rattle.msp_pieces.proofs.feasible.Frames.{frame_by, rate_on}
use Rattle.msp_pieces.proofs.changes.Serves.{IsMultiple-same, Serves}
use Rattle.msp_table.specs.Rows.{goes_of, table}
use Rattle.msp_route.specs.Law.{Applies}
use Rattle.msp_route.specs.Bounds.{greatest_unit}
use Rattle.msp_route.specs.Changes.{led}
use Rattle.msp_route.specs.Stays.{SchedulesStay}
use Rattle.msp_route.proofs.Applied.{part_alone}
use Rattle.msp_machines.specs.laws.InnerMachines.{in_environment, AreMachines, AreWithin-any, Inner-same_jobs}
use Rattle.msp_machines.specs.laws.Served.{ServesBoth, stay-served}
use Rattle.msp_machines.specs.Machines.{equal_speeds, led_at_equal_speeds, led_to_two_machines}

-- ---- the lower instance is an inner one
-- an environment in which a job may have one need, as on identical machines
record TakesSingle (e : Env) (l : EnvKind) (machines : ℕ) : Type 0 where
  kind : kind_of e ≡ l
  shape : (needs : List Need) → IsSingleNeed needs → HasShape l e machines needs
  least : (t : Times) → least_time l t ≤ 1
  factor : inner_factor l ≡ 1
  unit : greatest_unit l ≡ greatest_unit Identical

greatest-same : (l : EnvKind) (t : Times) → inner_factor l ≡ 1 → greatest_time (inner_limits Identical) t ≤ greatest_time (inner_limits l) t
greatest-same l Equal e = omega arith
greatest-same l _ e = omega (arith, e)

module _ (i : Instance) (e : Env) (l : EnvKind)
    (m : ℕ) (speeds : List ℕ) (from : kind_of i.class.env ≡ Identical) (takes : TakesSingle e l m) (machines : AreMachines e m speeds) (inner : Inner i) where
  abbrev lower : Instance
  lower = in_environment e m speeds i.jobs i

  own : (needs : List Need) → HasNeeds (inner_limits (kind_of i.class.env)) i needs → HasNeeds (inner_limits (kind_of e)) lower needs
  own needs h = record {
    shape = subst (λ k. HasShape k e m needs) (sym takes.kind) (takes.shape needs (subst (λ k. HasShape k i.class.env i.machines needs) from h.shape));
    times = subst (λ k. HasTimes (least_time k i.class.times) (greatest_time (inner_limits k) i.class.times) needs) (sym takes.kind) (λ k d b.
        let was = subst (λ x. HasTimes (least_time x i.class.times) (greatest_time (inner_limits x) i.class.times) needs) from h.times k d b in
        (omega (arith, was.0, takes.least i.class.times), omega (arith, was.1, greatest-same l i.class.times takes.factor)));
    some = h.some;
  }

  Inner-single : Inner lower
  Inner-single = Inner-same_jobs i e m speeds (AreWithin-any (kind_of i.class.env) (kind_of e) (ap inner_factor from)) machines own inner

  -- ---- schedules
  -- each job has its one operation, on the same machines, at a rate of 1
  record RunsSingle : Type 0 where
    has : (a : ℕ) → a < length i.jobs → HasOperation l lower a 0
    all : (a o : ℕ) → a < length i.jobs → HasOperation l lower a o → o ≡ 0
    may : (a n : ℕ) → a < length i.jobs → n < i.machines → MayRun l lower a 0 n
    may_back : (a n : ℕ) → a < length i.jobs → MayRun l lower a 0 n → n < i.machines
    rate : (a n : ℕ) → n < i.machines → rate_on l lower a n ≡ 1
    want : (a o : ℕ) → whole_work l lower a o ≡ (need_at i a o).time

  module _ (runs : RunsSingle) where
    serves_down : Serves (frame_by Identical i) (frame_by l lower)
    serves_down = record {
      operations = record {
        jobs = refl;
        has = λ a o b h. subst (HasOperation l lower a) (sym h) (runs.has a b);
        all = λ a o b h. runs.all a o b h;
        may = λ a o n b h w. subst (λ x. MayRun l lower a x n) (sym h) (runs.may a n b w);
        ratio = λ a o b h. IsMultiple-same (frame_by Identical i) (frame_by l lower) a o (λ n w. runs.rate a n w) (runs.want a o);
        cut = λ c. c;
      };
      heads = λ a b. omega arith;
      arcs = All-contains_itself i.arcs;
      routed = λ r. inr (λ a o n b h k. h ∙ sym k);
    }

    serves_up : Serves (frame_by l lower) (frame_by Identical i)
    serves_up = record {
      operations = record {
        jobs = refl;
        has = λ a o b h. runs.all a o b h;
        all = λ a o b h. subst (HasOperation l lower a) (sym h) (runs.has a b);
        may = λ a o n b h w. runs.may_back a n b (subst (λ x. MayRun l lower a x n) (runs.all a o b h) w);
        ratio = λ a o b h. IsMultiple-same (frame_by l lower) (frame_by Identical i)
            a o (λ n w. sym (runs.rate a n (runs.may_back a n b (subst (λ x. MayRun l lower a x n) (runs.all a o b h) w)))) (sym (runs.want a o));
        cut = λ c. c;
      };
      heads = λ a b. omega arith;
      arcs = All-contains_itself i.arcs;
      routed = λ r. absurd (cc);
    }

    ServesBoth-single : (row : ℕ) → goes_of row i.class ≡ Some lower.class → ServesBoth row i lower
    ServesBoth-single row g = record {
      lower = record { inner = Inner-single; class = g };
      down = subst₂ (λ x y. Serves (frame_by x i) (frame_by y lower)) (sym from) (sym takes.kind) serves_down;
      up = subst₂ (λ x y. Serves (frame_by y lower) (frame_by x i)) (sym from) (sym takes.kind) serves_up;
      charges = SameCharges-from_jobs i lower refl refl (λ k b. (refl, refl, refl));
      units = ≤ℤ_of_same (ap greatest_unit takes.kind ∙ takes.unit ∙ sym (ap greatest_unit from));
    }

    -- the same as the instance to which the row leads
    ServesBoth-led : (row : ℕ) → goes_of row i.class ≡ Some lower.class → ServesBoth row i (record (led row i) { machines = m; speeds = speeds })
    ServesBoth-led row g = subst (λ o. ServesBoth row i (record i { class = unwrap_or o i.class; machines = m; speeds = speeds })) (sym g) (ServesBoth-single row g)

-- ---- equal speeds
equal_machines : (i : Instance) (e : Env) → kind_of e ≡ Uniform → fixed_machines i.class.env ≡ fixed_machines e → Inner i → AreMachines e i.machines (equal_speeds i.machines)
equal_machines i e to fixed inner = record {
  some = inner.conditions.machines.0;
  few = inner.conditions.machines.1;
  fixed = subst (λ o. MatchOption o ⊤ (λ n. i.machines ≡ n)) fixed inner.conditions.machines.2;
  speeds = subst (λ k. HasSpeeds k i.machines (equal_speeds i.machines))
      (sym to) (length-replicate i.machines 1, All-replicate (λ s. (1 ≤ s) × (s ≤ GREATEST_SPEED)) i.machines 1 (omega arith, omega arith));
  multiple = (1, omega arith, omega arith, All-replicate (λ s. (times : ℕ) × (1 ≡ times * s)) i.machines 1 (1, refl));
}

serves_speeds : (row : ℕ) (i : Instance) (e : Env) → kind_of i.class.env ≡ Identical → kind_of e ≡ Uniform → fixed_machines i.class.env ≡ fixed_machines e
    → goes_of row i.class ≡ Some (record i.class { env = e }) → Inner i → ServesBoth row i (led_at_equal_speeds row i)
serves_speeds row i e from to fixed g inner = ServesBoth-led i e Uniform i.machines (equal_speeds i.machines) from (record {
  kind = to;
  shape = λ needs h. h;
  least = λ t. omega arith;
  factor = refl;
  unit = refl;
}) (equal_machines i e to fixed inner) inner (record {
  has = λ a b. refl;
  all = λ a o b h. h;
  may = λ a n b w. w;
  may_back = λ a n b w. w;
  rate = λ a n w. get_or-replicate i.machines n 1 0 w;
  want = λ a o. refl;
}) row g

pub stay_20 : (i : Instance) → Inner i → Applies 20 i → SchedulesStay 20 i (led_at_equal_speeds 20 i)
unfolding goes_of table
stay_20 i inner h = let (b, g) = part_alone _ _ h in let e = env_number-injective _ P2 (eqb-true _ _ b) in stay-served (serves_speeds 20 i Q2 (ap kind_of e) refl (ap fixed_machines e) g inner) inner

pub stay_21 : (i : Instance) → Inner i → Applies 21 i → SchedulesStay 21 i (led_at_equal_speeds 21 i)
unfolding goes_of table
stay_21 i inner h = let (b, g) = part_alone _ _ h in let e = env_number-injective _ P (eqb-true _ _ b) in stay-served (serves_speeds 21 i Q (ap kind_of e) refl (ap fixed_machines e) g inner) inner

-- ---- shops
module _ (i : Instance) (env : i.class.env ≡ One) (inner : Inner i) where
  one : i.machines ≡ 1
  one = subst (λ e. MatchOption (fixed_machines e) ⊤ (λ n. i.machines ≡ n)) env inner.conditions.machines.2

  no_speeds : i.speeds ≡ []
  no_speeds = subst (λ e. HasSpeeds (kind_of e) i.machines i.speeds) env inner.conditions.speeds

  needs_of : (a : ℕ) → a < length i.jobs → HasNeeds (inner_limits (kind_of i.class.env)) i (job_at i a).needs
  needs_of a b = (inner.conditions.jobs a no_job b).needs

  single : (a : ℕ) → a < length i.jobs → IsSingleNeed (job_at i a).needs
  single a b = subst (λ e. HasShape (kind_of e) e i.machines (job_at i a).needs) env (needs_of a b).shape

  on_first : (a : ℕ) → a < length i.jobs → (need_at i a 0).machine ≡ 0
  on_first a b = let s = single a b in s.1 0 no_need (omega (arith, s.0))

  takes_time : (a : ℕ) → a < length i.jobs → (need_at i a 0).time ≢ 0
  takes_time a b =
      let s = single a b in
      let t = subst (λ e. HasTimes (least_time (kind_of e) i.class.times) (greatest_time (inner_limits (kind_of e)) i.class.times) (job_at i a).needs) env (needs_of a b).times in
      some _ (t 0 no_need (omega (arith, s.0))).0
    where
      some : (x : ℕ) → 1 ≤ x → x ≢ 0
      some x h e = omega arith

  -- the one operation of a job is that of its route, on machine 0
  run_has : (a : ℕ) → a < length i.jobs → (0 < length (job_at i a).needs) × ((need_at i a 0).time ≢ 0)
  run_has a b = (omega (arith, (single a b).0), takes_time a b)

  run_all : (a o : ℕ) → a < length i.jobs → (o < length (job_at i a).needs) × ((need_at i a o).time ≢ 0) → o ≡ 0
  run_all a o b h = omega (arith, (single a b).0, h.0)

  run_may : (a n : ℕ) → a < length i.jobs → n < i.machines → n ≡ (need_at i a 0).machine
  run_may a n b w = omega (arith, one, on_first a b)

  run_may_back : (a n : ℕ) → a < length i.jobs → n ≡ (need_at i a 0).machine → n < i.machines
  run_may_back a n b w = omega (arith, one, on_first a b)

  per_machine : (needs : List Need) → IsSingleNeed needs → IsNeedPerMachine i.machines needs
  per_machine needs h = (h.0 ∙ sym one, λ k l. h.1 k no_need l ∙ omega (arith, h.0))

  route : (needs : List Need) → IsSingleNeed needs → IsRoute MOST_SHORT_OPERATIONS 2 needs
  route needs h = record {
    some = omega (arith, h.0);
    few = omega (arith, h.0);
    machines = λ k d l. omega (arith, h.1 k d l);
    moves = λ k d l. absurd (omega (arith, h.0));
  }

shop_least : (t : Times) → least_shop_time t ≤ 1
shop_least General = omega arith
shop_least _ = omega arith

-- the machines of the instance in an environment without speeds
one_machine : (i : Instance) → i.class.env ≡ One → Inner i
    → (e : Env) (m : ℕ) → 1 ≤ m → m ≤ MOST_MACHINES → HasSpeeds (kind_of e) m [] → MatchOption (fixed_machines e) ⊤ (λ n. m ≡ n) → AreMachines e m i.speeds
one_machine i env inner e m some few none fixed =
    record { some = some; few = few; fixed = fixed; speeds = subst (HasSpeeds (kind_of e) m) (sym (no_speeds i env inner)) none; multiple = inner.conditions.multiple }

-- each job runs its one operation on machine 0
shop_runs : (i : Instance) (env : i.class.env ≡ One) (inner : Inner i) (e : Env) (l : EnvKind) (m : ℕ) → is_shop_kind l ≡ true
    → (takes : TakesSingle e l m) (machines : AreMachines e m i.speeds) → RunsSingle i e l m i.speeds (ap kind_of env) takes machines inner
shop_runs i env inner e Identical m s takes machines = absurd (cc)
shop_runs i env inner e Uniform m s takes machines = absurd (cc)
shop_runs i env inner e Unrelated m s takes machines = absurd (cc)
shop_runs i env inner e _ m s takes machines =
    record { has = run_has i env inner; all = run_all i env inner; may = run_may i env inner; may_back = run_may_back i env inner; rate = λ a n w. refl; want = λ a o. refl }

serves_shop : (row : ℕ) (i : Instance) → i.class.env ≡ One → (e : Env) (l : EnvKind) (m : ℕ) → is_shop_kind l ≡ true → TakesSingle e l m
    → AreMachines e m i.speeds → goes_of row i.class ≡ Some (record i.class { env = e }) → Inner i → ServesBoth row i (record (led row i) { machines = m })
serves_shop row i env e l m s takes machines g inner = ServesBoth-led i e l m i.speeds (ap kind_of env) takes machines inner (shop_runs i env inner e l m s takes machines) row g

serves_flow : (i : Instance) → i.class.env ≡ One → goes_of 32 i.class ≡ Some (record i.class { env = F }) → Inner i → ServesBoth 32 i (led 32 i)
serves_flow i env g inner = serves_shop 32 i env F FlowShop i.machines refl (record { kind = refl; shape = per_machine i env inner; least = shop_least; factor = refl; unit = refl })
    (one_machine i env inner F i.machines inner.conditions.machines.0 inner.conditions.machines.1 refl tt) g inner

serves_open : (i : Instance) → i.class.env ≡ One → goes_of 33 i.class ≡ Some (record i.class { env = O }) → Inner i → ServesBoth 33 i (led 33 i)
serves_open i env g inner = serves_shop 33 i env O OpenShop i.machines refl (record { kind = refl; shape = per_machine i env inner; least = shop_least; factor = refl; unit = refl })
    (one_machine i env inner O i.machines inner.conditions.machines.0 inner.conditions.machines.1 refl tt) g inner

serves_job : (i : Instance) → i.class.env ≡ One → goes_of 34 i.class ≡ Some (record i.class { env = J2Short }) → Inner i → ServesBoth 34 i (led_to_two_machines 34 i)
serves_job i env g inner = serves_shop 34 i env J2Short JobShop 2 refl (record { kind = refl; shape = route i env inner; least = λ t. omega arith; factor = refl; unit = refl })
    (one_machine i env inner J2Short 2 (omega arith) (omega arith) refl refl) g inner

pub stay_32 : (i : Instance) → Inner i → Applies 32 i → SchedulesStay 32 i (led 32 i)
unfolding goes_of table
stay_32 i inner h = let (b, g) = part_alone _ _ h in stay-served (serves_flow i (env_number-injective _ One (eqb-true _ _ b)) g inner) inner

pub stay_33 : (i : Instance) → Inner i → Applies 33 i → SchedulesStay 33 i (led 33 i)
unfolding goes_of table
stay_33 i inner h = let (b, g) = part_alone _ _ h in stay-served (serves_open i (env_number-injective _ One (eqb-true _ _ b)) g inner) inner

pub stay_34 : (i : Instance) → Inner i → Applies 34 i → SchedulesStay 34 i (led_to_two_machines 34 i)
unfolding goes_of table
stay_34 i inner h = let (b, g) = part_alone _ _ h in stay-served (serves_job i (env_number-injective _ One (eqb-true _ _ b)) g inner) inner
