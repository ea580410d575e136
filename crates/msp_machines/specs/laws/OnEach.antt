-- The rows from identical to unrelated machines: schedules and costs stay.
use Rattle.std.proofs.Common.{◌≡◌, ℕ, ◌*◌, ◌/◌, ◌<◌, ◌≤◌, List, [], length, map, All, Some, unwrap_or, inl, ◌≤ℤ◌, slice_index_or, refl, sym, ap, subst, subst₂, ◌∙◌, arith}
use Rattle.std.proofs.lemmas.Bool.{eqb-true}
use Rattle.std.proofs.lemmas.Int.{ints}
use Rattle.std.proofs.lemmas.List.{length-map}
use Rattle.std.proofs.lemmas.List.Elements.{All-contains_itself}
use Rattle.std.specs.Prelude.{MatchOption, ⊤}
use Rattle.msp_class.specs.declared.class.Env.{Env}
use Rattle.msp_class.specs.declared.class.Env.TheVariants.{P2, P, R2, R}
use Rattle.msp_class.specs.declared.class.Times.{Times}
use Rattle.msp_class.specs.declared.class.Times.TheVariants.{General, Unit as UnitTimes, Equal}
use Rattle.msp_class.specs.declared.environments.EnvKind.TheVariants.{Identical, Unrelated}
use Rattle.msp_class.specs.Env.{kind_of, fixed_machines}
use Rattle.msp_class.proofs.EnvNumbers.{env_number-injective}
use Rattle.msp_instance.specs.declared.Need.{Need}
use Rattle.msp_instance.specs.declared.Instance.{Instance}
use Rattle.msp_instance.specs.Instance.{no_need, job_at, need_at, common_time}
use Rattle.msp_instance.specs.Conditions.{HasNeeds, HasShape, HasSpeeds, HasSameTimes, Inner, inner_limits, inner_factor, least_time, greatest_time}
use Rattle.msp_instance.proofs.Limits.{AreWithin}
use Rattle.msp_pieces.specs.Feasible.{product_of_times}
use Rattle.msp_pieces.proofs.changes.Serves.{Serves, SameOperations}
use Rattle.msp_pieces.proofs.costs.Charges.{SameCharges-from_map, job_cost-reads}
use Rattle.msp_pieces.proofs.feasible.Frames.{frame_by, rate_on, IsShaped-from_conditions, HasTimePerMachine, job_at-map, rate_times, rate_positive}
use Rattle.msp_table.specs.Rows.{goes_of, table}
use Rattle.msp_route.specs.Law.{Applies}
use Rattle.msp_route.specs.Bounds.{greatest_unit}
use Rattle.msp_route.specs.Stays.{SchedulesStay}
use Rattle.msp_route.proofs.Applied.{part_alone}
use Rattle.msp_machines.specs.Unrelated.{needs_by, on_each_machine, led_to_each}
use Rattle.msp_machines.specs.laws.NeedsBy.{get_or-needs_by, All-needs_by, HasNeeds-needs_by}
use Rattle.msp_machines.specs.laws.InnerMachines.{in_environment, AreMachines, AreWithin-any, Inner-with_needs}
use Rattle.msp_machines.specs.laws.Served.{ServesBoth, stay-served}

-- ---- the lower instance is an inner one
same_times : (t : Times) (shared : ℕ) (needs : List Need) (n : ℕ) → 0 < length needs → HasSameTimes t shared needs → HasSameTimes t shared (needs_by n (λ m. (slice_index_or needs 0 no_need).time))
same_times General shared needs n some h = tt
same_times UnitTimes shared needs n some h = All-needs_by (λ x. x.time ≡ 1) n (λ m. (slice_index_or needs 0 no_need).time) (λ m l. h 0 no_need some)
same_times Equal shared needs n some h = All-needs_by (λ x. x.time ≡ shared) n (λ m. (slice_index_or needs 0 no_need).time) (λ m l. h 0 no_need some)

greater : (t : Times) (x : ℕ) → x ≤ greatest_time (inner_limits Identical) t → x ≤ greatest_time (inner_limits Unrelated) t
greater Equal x h = h
greater _ x h = omega arith

module _ (row : ℕ) (i : Instance) (e : Env) (from : kind_of i.class.env ≡ Identical) (to : kind_of e ≡ Unrelated)
    (fixed : fixed_machines i.class.env ≡ fixed_machines e) (g : goes_of row i.class ≡ Some (record i.class { env = e })) (inner : Inner i) where
  abbrev lower : Instance
  lower = in_environment e i.machines i.speeds (map (on_each_machine i.machines) i.jobs) i

  -- machines, and the needs of a job
  machines_some : 1 ≤ i.machines
  machines_some = inner.conditions.machines.0

  no_speeds : i.speeds ≡ []
  no_speeds = subst (λ k. HasSpeeds k i.machines i.speeds) from inner.conditions.speeds

  machines : AreMachines e i.machines i.speeds
  machines = record {
    some = machines_some;
    few = inner.conditions.machines.1;
    fixed = subst (λ o. MatchOption o ⊤ (λ m. i.machines ≡ m)) fixed inner.conditions.machines.2;
    speeds = subst (λ k. HasSpeeds k i.machines i.speeds) (sym to) no_speeds;
    multiple = inner.conditions.multiple;
  }

  single : (needs : List Need) → HasNeeds (inner_limits (kind_of i.class.env)) i needs → 0 < length needs
  single needs h = let s = subst (λ k. HasShape k i.class.env i.machines needs) from h.shape in omega (arith, s.0)

  job_is : (a : ℕ) → a < length i.jobs → job_at lower a ≡ on_each_machine i.machines (job_at i a)
  job_is a l = job_at-map i lower (on_each_machine i.machines) refl a l

  need_is : (a m : ℕ) → a < length i.jobs → m < i.machines → need_at lower a m ≡ record { machine = m; time = (need_at i a 0).time }
  need_is a m l b = ap (λ x. slice_index_or x.needs m no_need) (job_is a l) ∙ get_or-needs_by i.machines (λ m. (need_at i a 0).time) m no_need b

  shared_is : common_time lower ≡ common_time i
  shared_is = ap (λ x. x.time) (need_is 0 0 inner.conditions.some machines_some)

  wider : AreWithin (inner_limits (kind_of i.class.env)) (inner_limits (kind_of e))
  wider = AreWithin-any (kind_of i.class.env) (kind_of e) (ap inner_factor from)

  own : (needs : List Need) → HasNeeds (inner_limits (kind_of i.class.env)) i needs → HasSameTimes i.class.times (common_time i) needs →
      HasNeeds (inner_limits (kind_of e)) lower (needs_by i.machines (λ m. (slice_index_or needs 0 no_need).time))
      × HasSameTimes i.class.times (common_time lower) (needs_by i.machines (λ m. (slice_index_or needs 0 no_need).time))
  own needs h same =
      let t = h.times 0 no_need (single needs h) in (
        HasNeeds-needs_by lower i.machines (λ m. (slice_index_or needs 0 no_need).time) to refl machines_some (λ m l. (
          subst (λ k. least_time k i.class.times ≤ (slice_index_or needs 0 no_need).time) from t.0,
          greater i.class.times (slice_index_or needs 0 no_need).time (subst (λ k. (slice_index_or needs 0 no_need).time ≤ greatest_time (inner_limits k) i.class.times) from t.1),
        )),
        subst (λ s. HasSameTimes i.class.times s (needs_by i.machines (λ m. (slice_index_or needs 0 no_need).time)))
            (sym shared_is) (same_times i.class.times (common_time i) needs i.machines (single needs h) same),
      )

  lower_inner : Inner lower
  lower_inner = Inner-with_needs i e i.machines i.speeds (λ needs. needs_by i.machines (λ m. (slice_index_or needs 0 no_need).time)) wider machines own inner

  -- ---- schedules
  per_machine : All (HasTimePerMachine i.machines) lower.jobs
  per_machine = (IsShaped-from_conditions (inner_limits (kind_of e)) lower lower_inner.conditions).unrelated to

  count : length lower.jobs ≡ length i.jobs
  count = length-map i.jobs (on_each_machine i.machines)

  -- what the job gets in a moment, on any machine
  rate_of : ℕ → ℕ
  rate_of a = rate_on Unrelated lower a 0

  rate_is : (a m : ℕ) → a < length i.jobs → m < i.machines → rate_on Unrelated lower a m ≡ rate_of a
  unfolding rate_of
  rate_is a m l b = ap (λ t. product_of_times (job_at lower a).needs / t) (ap (λ x. x.time) (need_is a m l b) ∙ sym (ap (λ x. x.time) (need_is a 0 l machines_some)))

  want_is : (a : ℕ) → a < length i.jobs → product_of_times (job_at lower a).needs ≡ rate_of a * (need_at i a 0).time
  unfolding rate_of
  want_is a l = sym (rate_times lower a 0 per_machine (omega (arith, count)) machines_some) ∙ ap (λ x. rate_on Unrelated lower a 0 * x.time) (need_is a 0 l machines_some)

  rate_some : (a : ℕ) → a < length i.jobs → 0 < rate_of a
  unfolding rate_of
  rate_some a l = rate_positive lower a 0 per_machine (omega (arith, count)) machines_some

  operations_to : SameOperations (frame_by Identical i) (frame_by Unrelated lower)
  operations_to = record {
    jobs = sym count;
    has = λ a o l h. h;
    all = λ a o l h. h;
    may = λ a o m l h w. w;
    ratio = λ a o l h. record {
      times = 1;
      over = rate_of a;
      some = omega arith;
      rate = λ m w. omega (arith, rate_is a m l w);
      want = omega (arith, want_is a l, ap (λ n. rate_of a * (need_at i a n).time) h);
    };
    cut = λ c. c;
  }

  operations_from : SameOperations (frame_by Unrelated lower) (frame_by Identical i)
  operations_from = record {
    jobs = count;
    has = λ a o l h. h;
    all = λ a o l h. h;
    may = λ a o m l h w. w;
    ratio = λ a o l h. let inside : a < length i.jobs = omega (arith, count) in record {
      times = rate_of a;
      over = 1;
      some = rate_some a inside;
      rate = λ m w. omega (arith, rate_is a m inside w);
      want = omega (arith, want_is a inside, ap (λ n. rate_of a * (need_at i a n).time) h);
    };
    cut = λ c. c;
  }

  head_is : (a : ℕ) → a < length i.jobs → (job_at lower a).release ≡ (job_at i a).release
  head_is a l = ap (λ x. x.release) (job_is a l)

  pub serves_both : ServesBoth row i lower
  serves_both = record {
    lower = record { inner = lower_inner; class = g };
    down = subst₂ (λ x y. Serves (frame_by x i) (frame_by y lower)) (sym from) (sym to) (record {
      operations = operations_to;
      heads = λ a l. omega (arith, head_is a l);
      arcs = All-contains_itself i.arcs;
      routed = λ r. inl r;
    });
    up = subst₂ (λ x y. Serves (frame_by x lower) (frame_by y i)) (sym to) (sym from) (record {
      operations = operations_from;
      heads = λ a l. omega (arith, head_is a (omega (arith, count)));
      arcs = All-contains_itself i.arcs;
      routed = λ r. inl r;
    });
    charges = SameCharges-from_map i lower (on_each_machine i.machines) refl refl (λ a unit x u p. job_cost-reads i.class.crit unit a (on_each_machine i.machines a) x refl refl refl);
    units = subst₂ (λ x y. greatest_unit x ≤ℤ greatest_unit y) (sym to) (sym from) (omega (arith, ints));
  }

-- ---- the two rows
shared : (row : ℕ) (i : Instance) (e : Env) → kind_of i.class.env ≡ Identical → kind_of e ≡ Unrelated
    → fixed_machines i.class.env ≡ fixed_machines e → goes_of row i.class ≡ Some (record i.class { env = e }) → Inner i → ServesBoth row i (led_to_each row i)
shared row i e from to fixed g inner =
    subst (ServesBoth row i) (sym (ap (λ o. record i { class = unwrap_or o i.class; jobs = map (on_each_machine i.machines) i.jobs }) g)) (serves_both row i e from to fixed g inner)

pub stay_23 : (i : Instance) → Inner i → Applies 23 i → SchedulesStay 23 i (led_to_each 23 i)
unfolding goes_of table
stay_23 i inner h = let (b, g) = part_alone _ _ h in let e = env_number-injective _ P2 (eqb-true _ _ b) in stay-served (shared 23 i R2 (ap kind_of e) refl (ap fixed_machines e) g inner) inner

pub stay_24 : (i : Instance) → Inner i → Applies 24 i → SchedulesStay 24 i (led_to_each 24 i)
unfolding goes_of table
stay_24 i inner h = let (b, g) = part_alone _ _ h in let e = env_number-injective _ P (eqb-true _ _ b) in stay-served (shared 24 i R (ap kind_of e) refl (ap fixed_machines e) g inner) inner
