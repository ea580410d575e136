-- The rows from flow shops to job shops: the operations that take time are a job's route.
use Rattle.std.proofs.Common.{◌≡◌, ◌≢◌, ℕ, zero, suc, ◌+◌, ◌<◌, ◌≤◌, Bool, true, false, not, cond, List, [], ◌∷◌, length, get_or, map, filter, take, All, AllPairs, Any, inl, Some}
use Rattle.std.proofs.Common.{MatchOption, slice_index_or, ℤ, pos, ◌*ℤ◌, ◌≤ℤ◌, refl, sym, ap, ap₂, subst, subst₂, ◌∙◌, arith}
use Rattle.std.specs.Prelude.{◌==◌, unwrap_or, ⊤}
use Rattle.std.proofs.lemmas.Bool.{eqb-true, eq-eqb, ne_eqb}
use Rattle.std.proofs.lemmas.List.{length-map, get_or_default}
use Rattle.std.proofs.lemmas.List.Elements.{All-head, All-tail, All-filter, All-contains_itself, filter_passes}
use Rattle.std.proofs.lemmas.List.Kept.{AllPairs-filter}
use Rattle.std.proofs.lemmas.List.Sums.{length-filter, count_by-le-length}
use Rattle.msp_class.specs.declared.class.Env.{Env}
use Rattle.msp_class.specs.declared.class.Env.TheVariants.{F2, F, J2Short, J}
use Rattle.msp_class.specs.declared.class.Times.{Times}
use Rattle.msp_class.specs.declared.class.Times.TheVariants.{General, Unit as UnitTimes, Equal}
use Rattle.msp_class.specs.declared.environments.EnvKind.TheVariants.{FlowShop, JobShop}
use Rattle.msp_class.specs.Env.{kind_of, fixed_machines, most_operations}
use Rattle.msp_class.proofs.EnvNumbers.{env_number-injective}
use Rattle.msp_class.proofs.IntegerRing.{≤ℤ_of_same}
use Rattle.msp_instance.specs.declared.Need.{Need}
use Rattle.msp_instance.specs.declared.Instance.{Instance}
use Rattle.msp_instance.specs.Instance.{no_need, no_job, job_at, need_at, common_time}
use Rattle.msp_instance.specs.Conditions.{Limits, HasSpeeds, HasShape, HasTimes, HasNeeds, HasSameTimes, IsNeedPerMachine, IsRoute, Inner, inner_limits, inner_factor, least_time, greatest_time}
use Rattle.msp_pieces.specs.declared.Piece.{Piece}
use Rattle.msp_pieces.specs.declared.Schedule.{Schedule}
use Rattle.msp_pieces.specs.Feasible.{Feasible, MayRun}
use Rattle.msp_pieces.proofs.costs.Charges.{SameCharges-from_map, job_cost-reads}
use Rattle.msp_pieces.proofs.feasible.Frames.{IsShaped, IsShaped-from_conditions, frame_by, job_at-map}
use Rattle.msp_pieces.proofs.changes.Moves.{Suits}
use Rattle.msp_pieces.proofs.changes.Transport.{Stretches-identity, carried, carried_schedule, Feasible-carried}
use Rattle.msp_table.specs.Parts.{EnvIs, has}
use Rattle.msp_table.specs.Rows.{goes_of, table}
use Rattle.msp_route.specs.Law.{Applies}
use Rattle.msp_route.specs.Bounds.{greatest_unit}
use Rattle.msp_route.proofs.Applied.{part_alone}
use Rattle.msp_machines.specs.Shops.{takes_time, place_in_route, without_empty, without_empty_operations, with_number, numbered, route_number, machine_number}
use Rattle.msp_machines.specs.laws.Renumbered.{Renumbered}
use Rattle.msp_machines.specs.laws.InnerMachines.{in_environment, with_needs, Inner-with_needs, AreWithin-any}

-- ---- places among the items that pass a test
module _ {X : Type 0} (p : X → Bool) where
  abbrev place : List X → ℕ → ℕ
  place xs o = length (filter p (take o xs))

  -- an item that passes stands at its place
  kept_at : (xs : List X) (o : ℕ) (d : X) → o < length xs → p (get_or xs o d) ≡ true → (place xs o < length (filter p xs)) × (get_or (filter p xs) (place xs o) d ≡ get_or xs o d)
  kept_at [] o d l h = absurd (omega arith)
  kept_at (x ∷ xs) zero d l h = subst (λ b. (0 < length (cond b (x ∷ filter p xs) (filter p xs))) × (get_or (cond b (x ∷ filter p xs) (filter p xs)) 0 d ≡ x)) (sym h) (omega arith, refl)
  kept_at (x ∷ xs) (suc o) d l h = by (p x) (kept_at xs o d (omega arith) h)
    where
      by : (b : Bool) → (place xs o < length (filter p xs)) × (get_or (filter p xs) (place xs o) d ≡ get_or xs o d)
          → (length (cond b (x ∷ filter p (take o xs)) (filter p (take o xs))) < length (cond b (x ∷ filter p xs) (filter p xs)))
          × (get_or (cond b (x ∷ filter p xs) (filter p xs)) (length (cond b (x ∷ filter p (take o xs)) (filter p (take o xs)))) d ≡ get_or xs o d)
      by true (k, e) = (omega (arith, k), e)
      by false (k, e) = (k, e)

  -- at each place stands one that passes
  kept_from : (xs : List X) (r : ℕ) (d : X) → r < length (filter p xs) → (o : ℕ) × (o < length xs) × (p (get_or xs o d) ≡ true) × (place xs o ≡ r)
  kept_from [] r d l = absurd (omega arith)
  kept_from (x ∷ xs) r d l = by (p x) refl r l (λ r l. kept_from xs r d l)
    where
      by : (b : Bool) → p x ≡ b → (r : ℕ) → r < length (cond b (x ∷ filter p xs) (filter p xs))
          → ((r : ℕ) → r < length (filter p xs) → (o : ℕ) × (o < length xs) × (p (get_or xs o d) ≡ true) × (place xs o ≡ r))
          → (o : ℕ) × (o < length (x ∷ xs)) × (p (get_or (x ∷ xs) o d) ≡ true) × (place (x ∷ xs) o ≡ r)
      by true e zero l rest = (0, omega arith, e, refl)
      by true e (suc r) l rest = let (o, m, h, k) = rest r (omega arith) in (suc o, omega arith, h, ap (λ b. length (cond b (x ∷ filter p (take o xs)) (filter p (take o xs)))) e ∙ ap suc k)
      by false e r l rest = let (o, m, h, k) = rest r l in (suc o, omega arith, h, ap (λ b. length (cond b (x ∷ filter p (take o xs)) (filter p (take o xs)))) e ∙ k)

  -- places are in order
  places_increase : (xs : List X) (o n : ℕ) (d : X) → o < n → n < length xs → p (get_or xs o d) ≡ true → place xs o < place xs n
  places_increase [] o n d l m h = absurd (omega arith)
  places_increase (x ∷ xs) o zero d l m h = absurd (omega arith)
  places_increase (x ∷ xs) zero (suc n) d l m h = subst (λ b. 0 < length (cond b (x ∷ filter p (take n xs)) (filter p (take n xs)))) (sym h) (omega arith)
  places_increase (x ∷ xs) (suc o) (suc n) d l m h = by (p x) (places_increase xs o n d (omega arith) (omega arith) h)
    where
      by : (b : Bool) → place xs o < place xs n → length (cond b (x ∷ filter p (take o xs)) (filter p (take o xs))) < length (cond b (x ∷ filter p (take n xs)) (filter p (take n xs)))
      by true k = omega (arith, k)
      by false k = k

-- ---- the needs of a flow shop, and those that take time
abbrev HasTime : ℕ → List Need → Type 0
HasTime o ns = (o < length ns) × ((slice_index_or ns o no_need).time ≢ 0)

abbrev kept : List Need → List Need
kept ns = filter takes_time ns

takes : (t : ℕ) → t ≢ 0 → not (t == 0) ≡ true
takes t h = ap not (ne_eqb t 0 h)

taken : (t : ℕ) → not (t == 0) ≡ true → t ≢ 0
taken t h e = absurd (cc (h, ap not (eq-eqb t 0 e)))

module _ (m : ℕ) (ns : List Need) (per : IsNeedPerMachine m ns) where
  -- an operation with work has its place, with its need
  place_has : (o : ℕ) → HasTime o ns → place_in_route ns o < length (kept ns)
  place_has o h = (kept_at takes_time ns o no_need h.0 (takes _ h.1)).0

  place_need : (o : ℕ) → HasTime o ns → slice_index_or (kept ns) (place_in_route ns o) no_need ≡ slice_index_or ns o no_need
  place_need o h = (kept_at takes_time ns o no_need h.0 (takes _ h.1)).1

  place_time : (o : ℕ) → HasTime o ns → HasTime (place_in_route ns o) (kept ns)
  place_time o h = (place_has o h, subst (λ n. n.time ≢ 0) (sym (place_need o h)) h.1)

  place_reached : (r : ℕ) → r < length (kept ns) → (o : ℕ) × HasTime o ns × (place_in_route ns o ≡ r)
  place_reached r l = let (o, inside, h, e) = kept_from takes_time ns r no_need l in (o, (inside, taken _ h), e)

  place_order : (o n : ℕ) → HasTime o ns → HasTime n ns → o < n → place_in_route ns o < place_in_route ns n
  place_order o n h k l = places_increase takes_time ns o n no_need l k.0 (takes _ h.1)

  -- the machine of a place is the number of its operation
  place_machine : (o : ℕ) → HasTime o ns → (slice_index_or (kept ns) (place_in_route ns o) no_need).machine ≡ o
  place_machine o h = ap (λ n. n.machine) (place_need o h) ∙ per.1 o h.0

  abbrev old_number : ℕ → ℕ
  old_number r = (slice_index_or (kept ns) r no_need).machine

  number_is : (r : ℕ) → r < length (kept ns) → HasTime (old_number r) ns × (place_in_route ns (old_number r) ≡ r)
  number_is r l =
      let (o, h, e) = place_reached r l in
      let same : o ≡ old_number r = sym (place_machine o h) ∙ ap old_number e in
      subst (λ x. HasTime x ns × (place_in_route ns x ≡ r)) same (h, e)

  number_need : (r : ℕ) → r < length (kept ns) → slice_index_or ns (old_number r) no_need ≡ slice_index_or (kept ns) r no_need
  number_need r l = let (h, e) = number_is r l in sym (place_need (old_number r) h) ∙ ap (λ x. slice_index_or (kept ns) x no_need) e

  in_turn : AllPairs (λ a b. a.machine < b.machine) (kept ns)
  in_turn = AllPairs-filter (λ a b. a.machine < b.machine) takes_time ns (λ j k d l b. omega (arith, l, machine j d (omega (arith, l, b)), machine k d b))
    where
      machine : (k : ℕ) (d : Need) → k < length ns → (slice_index_or ns k d).machine ≡ k
      machine k d l = ap (λ n. n.machine) (get_or_default ns k d no_need l) ∙ per.1 k l

  -- a route
  some_kept : Any (λ n. 1 ≤ n.time) ns → Any (λ n. 1 ≤ n.time) (kept ns)
  some_kept (k, x, l, e, h) = let (inside, same) = kept_at takes_time ns k x l (subst (λ n. takes_time n ≡ true) (sym e) (takes x.time (λ z. absurd (omega arith)))) in
      (place_in_route ns k, x, inside, same ∙ e, h)

  route_kept : (most : ℕ) → m ≤ most → Any (λ n. 1 ≤ n.time) ns → IsRoute most m (kept ns)
  route_kept most fits some = record {
    some = let (k, x, l, e, h) = some_kept some in omega (arith, l);
    few = omega (arith, fits, length-filter takes_time ns, count_by-le-length takes_time ns, per.0);
    machines = All-filter takes_time (λ n. n.machine < m) ns (λ k d l. omega (arith, l, per.0, ap (λ n. n.machine) (get_or_default ns k d no_need l) ∙ per.1 k l));
    moves = λ k d l e. omega (arith, in_turn k (k + 1) d (omega arith) l, e);
  }

  times_kept : (least most : ℕ) → HasTimes least most ns → HasTimes 1 most (kept ns)
  times_kept least most h = λ k d l. (some _ (taken _ (filter_passes takes_time ns k d l)), All-filter takes_time (λ n. n.time ≤ most) ns (λ k d l. (h k d l).1) k d l)
    where
      some : (t : ℕ) → t ≢ 0 → 1 ≤ t
      some t h = omega arith

-- ---- the rows
-- maps that agree at each item
map-agree : {X Y : Type 0} (f g : X → Y) (xs : List X) → All (λ x. f x ≡ g x) xs → map f xs ≡ map g xs
map-agree f g [] h = refl
map-agree f g (x ∷ xs) h = ap₂ (λ y ys. y ∷ ys) (All-head (λ x. f x ≡ g x) x xs h) (map-agree f g xs (All-tail (λ x. f x ≡ g x) x xs h))

-- what the two environments have to do with each other
record IsRouting (to : Env) (i : Instance) : Type 0 where
  flow : kind_of i.class.env ≡ FlowShop
  job : kind_of to ≡ JobShop
  fixed : MatchOption (fixed_machines to) ⊤ (λ m. i.machines ≡ m)
  fits : i.machines ≤ most_operations to

module _ (to : Env) (i : Instance) (w : IsRouting to i) (inner : Inner i) where
  abbrev lower : Instance
  lower = in_environment to i.machines i.speeds (map (with_needs kept) i.jobs) i

  abbrev limits : Limits
  limits = inner_limits (kind_of i.class.env)

  -- each job of the upper instance
  job_is : (a : ℕ) → a < length i.jobs → job_at lower a ≡ with_needs kept (job_at i a)
  job_is a l = job_at-map i lower (with_needs kept) refl a l

  needs_are : (a : ℕ) → a < length i.jobs → (job_at lower a).needs ≡ kept (job_at i a).needs
  needs_are a l = ap (λ x. x.needs) (job_is a l)

  per_machine : (ns : List Need) → HasNeeds limits i ns → IsNeedPerMachine i.machines ns
  per_machine ns h = subst (λ k. HasShape k i.class.env i.machines ns) w.flow h.shape

  per : (a : ℕ) → a < length i.jobs → IsNeedPerMachine i.machines (job_at i a).needs
  per a l = per_machine (job_at i a).needs (inner.conditions.jobs a no_job l).needs

  -- the limits
  factor : inner_factor (kind_of i.class.env) ≡ 1
  factor = ap inner_factor w.flow

  same_times : (t : Times) (c : ℕ) (ns : List Need) → (t ≡ Equal → c ≡ common_time i) → HasSameTimes t (common_time i) ns → HasSameTimes t c (kept ns)
  same_times General c ns e h = tt
  same_times UnitTimes c ns e h = All-filter takes_time (λ n. n.time ≡ 1) ns h
  same_times Equal c ns e h = All-filter takes_time (λ n. n.time ≡ c) ns (λ k d l. h k d l ∙ sym (e refl))

  shared : i.class.times ≡ Equal → common_time lower ≡ common_time i
  shared e =
      let first = inner.conditions.jobs 0 no_job inner.conditions.some in
      let ns = (job_at i 0).needs in
      let (k, x, l, same, h) = some_kept i.machines ns (per_machine ns first.needs) first.needs.some in
      ap (λ n. (slice_index_or n 0 no_need).time) (needs_are 0 inner.conditions.some)
      ∙ All-filter takes_time (λ n. n.time ≡ common_time i) ns (subst (λ t. HasSameTimes t (common_time i) ns) e first.times) 0 no_need (omega (arith, l))

  own : (ns : List Need) → HasNeeds limits i ns → HasSameTimes i.class.times (common_time i) ns
      → HasNeeds (inner_limits (kind_of to)) lower (kept ns) × HasSameTimes i.class.times (common_time lower) (kept ns)
  own ns h t =
      let q = per_machine ns h in (
        record {
          shape = subst (λ k. HasShape k to i.machines (kept ns)) (sym w.job) (route_kept i.machines ns q (most_operations to) w.fits h.some);
          times = subst (λ k. HasTimes (least_time k i.class.times) (greatest_time (inner_limits k) i.class.times) (kept ns)) (sym w.job)
              (times_kept i.machines ns q _ (greatest_time (inner_limits FlowShop) i.class.times)
              (subst (λ k. HasTimes (least_time k i.class.times) (greatest_time (inner_limits k) i.class.times) ns) w.flow h.times));
          some = some_kept i.machines ns q h.some;
        },
        same_times i.class.times (common_time lower) ns shared t,
      )

  Inner-routed : Inner lower
  Inner-routed = Inner-with_needs i to i.machines i.speeds kept (AreWithin-any (kind_of i.class.env) (kind_of to) factor) (record {
    some = inner.conditions.machines.0;
    few = inner.conditions.machines.1;
    fixed = w.fixed;
    speeds = subst (λ k. HasSpeeds k i.machines i.speeds) (sym w.job) (subst (λ k. HasSpeeds k i.machines i.speeds) w.flow inner.conditions.speeds);
    multiple = inner.conditions.multiple;
  }) own inner

  -- schedules
  shaped : IsShaped i
  shaped = IsShaped-from_conditions limits i inner.conditions

  shaped_lower : IsShaped lower
  shaped_lower = IsShaped-from_conditions (inner_limits (kind_of to)) lower Inner-routed.conditions

  same_ratio : (D : ℤ) (a b : ℕ) → a ≡ b → pos 1 *ℤ (D *ℤ pos a) ≡ pos 1 *ℤ (D *ℤ pos b)
  same_ratio D a b e = ap (λ n. pos 1 *ℤ (D *ℤ pos n)) e

  abbrev forth : ℕ → ℕ → ℕ
  forth a o = place_in_route (job_at i a).needs o

  abbrev back : ℕ → ℕ → ℕ
  back a r = (need_at lower a r).machine

  -- need r of the route, seen from the upper instance
  need_is : (a r : ℕ) → a < length i.jobs → need_at lower a r ≡ slice_index_or (kept (job_at i a).needs) r no_need
  need_is a r l = ap (λ ns. slice_index_or ns r no_need) (needs_are a l)

  need_forth : (a o : ℕ) → a < length i.jobs → HasTime o (job_at i a).needs → need_at lower a (forth a o) ≡ need_at i a o
  need_forth a o l h = need_is a (forth a o) l ∙ place_need i.machines (job_at i a).needs (per a l) o h

  suits_forth : (D : ℤ) → Suits (frame_by FlowShop i) (frame_by JobShop lower) D D (pos 1) forth
  suits_forth D = record {
    jobs = sym (length-map i.jobs (with_needs kept));
    has = λ a o l h. subst (HasTime (forth a o)) (sym (needs_are a l)) (place_time i.machines (job_at i a).needs (per a l) o h);
    all = λ a r l h. place_reached i.machines (job_at i a).needs (per a l) r (subst (HasTime r) (needs_are a l) h).0;
    increasing = λ a o n l h k less. place_order i.machines (job_at i a).needs (per a l) o n h k less;
    may = λ a o m l h e. e ∙ sym (ap (λ n. n.machine) (need_forth a o l h));
    ratio = λ a o l h. record { times = 1; over = 1; some = omega arith; rate = λ m e. refl; want = same_ratio D _ _ (ap (λ n. n.time) (need_forth a o l h)) };
    cut = λ e. e;
  }

  number_at : (a r : ℕ) → a < length i.jobs → HasTime r (job_at lower a).needs → HasTime (back a r) (job_at i a).needs × (need_at i a (back a r) ≡ need_at lower a r)
  number_at a r l h =
      let ns = (job_at i a).needs in
      let inside = (subst (HasTime r) (needs_are a l) h).0 in
      let number : (slice_index_or (kept ns) r no_need).machine ≡ back a r = ap (λ n. n.machine) (sym (need_is a r l)) in (
        subst (λ o. HasTime o ns) number (number_is i.machines ns (per a l) r inside).0,
        ap (λ o. need_at i a o) (sym number) ∙ number_need i.machines ns (per a l) r inside ∙ sym (need_is a r l),
      )

  suits_back : (D : ℤ) → Suits (frame_by JobShop lower) (frame_by FlowShop i) D D (pos 1) back
  suits_back D = record {
    jobs = length-map i.jobs (with_needs kept);
    has = λ a r l h. (number_at a r (omega (arith, length-map i.jobs (with_needs kept))) h).0;
    all = λ a o l h.
        let b : a < length i.jobs = omega (arith, length-map i.jobs (with_needs kept)) in (
          forth a o,
          subst (HasTime (forth a o)) (sym (needs_are a b)) (place_time i.machines (job_at i a).needs (per a b) o h),
          ap (λ n. n.machine) (need_is a (forth a o) b) ∙ place_machine i.machines (job_at i a).needs (per a b) o h,
        );
    increasing = λ a r q l h k less.
        let b : a < length i.jobs = omega (arith, length-map i.jobs (with_needs kept)) in
        subst₂ (λ x y. x < y) (ap (λ n. n.machine) (sym (need_is a r b))) (ap (λ n. n.machine) (sym (need_is a q b)))
        (in_turn i.machines (job_at i a).needs (per a b) r q no_need less (subst (HasTime q) (needs_are a b) k).0);
    may = λ a r m l h e. let b : a < length i.jobs = omega (arith, length-map i.jobs (with_needs kept)) in e ∙ sym (ap (λ n. n.machine) (number_at a r b h).1);
    ratio = λ a r l h.
        let b : a < length i.jobs = omega (arith, length-map i.jobs (with_needs kept)) in
        record { times = 1; over = 1; some = omega arith; rate = λ m e. refl; want = same_ratio D _ _ (ap (λ n. n.time) (number_at a r b h).1) };
    cut = λ e. e;
  }

  release_is : (a : ℕ) → a < length i.jobs → (job_at lower a).release ≡ (job_at i a).release
  release_is a l = ap (λ x. x.release) (job_is a l)

  down : (s : Schedule) → Feasible i s → Feasible lower (numbered (route_number i) s)
  down s f = Feasible-carried i lower s FlowShop JobShop w.flow w.job s.unit (pos 1) (λ x. x) forth shaped f (record {
    unit = f.unit;
    moments = Stretches-identity s.pieces;
    operations = suits_forth s.unit;
    heads = λ k d l inside h. subst (λ r. (s.unit *ℤ pos r) ≤ℤ (get_or s.pieces k d).from) (sym (release_is (get_or s.pieces k d).job inside)) h;
    arcs = All-contains_itself i.arcs;
    routed = λ e. inl refl;
  }) shaped_lower

  up_by : (s : Schedule) → Feasible lower s → Feasible i (carried_schedule s.unit (λ x. x) back s)
  up_by s f = Feasible-carried lower i s JobShop FlowShop w.job w.flow s.unit (pos 1) (λ x. x) back shaped_lower f (record {
    unit = f.unit;
    moments = Stretches-identity s.pieces;
    operations = suits_back s.unit;
    heads = λ k d l inside h. subst (λ r. (s.unit *ℤ pos r) ≤ℤ (get_or s.pieces k d).from) (release_is (get_or s.pieces k d).job (omega (arith, inside, length-map i.jobs (with_needs kept)))) h;
    arcs = All-contains_itself i.arcs;
    routed = λ e. inl refl;
  }) shaped

  -- the machine of a piece is that of its operation
  up : (s : Schedule) → Feasible lower s → Feasible i (numbered machine_number s)
  up s f = subst (λ ps. Feasible i (record s { pieces = ps }))
      (map-agree (carried (λ x. x) back) (with_number machine_number) s.pieces (λ k d l. same (get_or s.pieces k d) (f.place k d l).machine)) (up_by s f)
    where
      same : (p : Piece) → MayRun (kind_of to) lower p.job p.op p.machine → carried (λ x. x) back p ≡ with_number machine_number p
      same p h = ap (λ o. record p { op = o }) (sym (subst (λ k. MayRun k lower p.job p.op p.machine) w.job h))

  Renumbered-routed : (row : ℕ) → goes_of row i.class ≡ Some lower.class → Renumbered row i lower (route_number i) machine_number
  Renumbered-routed row goes = record {
    lower = record { inner = Inner-routed; class = goes };
    charges = SameCharges-from_map i lower (with_needs kept) refl refl (λ a unit x u p. job_cost-reads i.class.crit unit a (with_needs kept a) x refl refl refl);
    units = ≤ℤ_of_same (ap greatest_unit w.job ∙ sym (ap greatest_unit w.flow));
    down = down;
    up = up;
  }

  Renumbered-led : (row : ℕ) → goes_of row i.class ≡ Some lower.class → Renumbered row i (without_empty_operations row i) (route_number i) machine_number
  Renumbered-led row goes =
      subst (λ j. Renumbered row i j (route_number i) machine_number)
      (sym (ap (λ o. record i { class = unwrap_or o i.class; jobs = map without_empty i.jobs }) goes))
      (Renumbered-routed row goes)

two_machines : (i : Instance) → i.class.env ≡ F2 → Inner i → i.machines ≡ 2
two_machines i e inner = subst (λ x. MatchOption (fixed_machines x) ⊤ (λ m. i.machines ≡ m)) e inner.conditions.machines.2

renumbered_at : (row : ℕ) (from to : Env) → (i : Instance) → Inner i → (i.class.env ≡ from → IsRouting to i)
    → (has i.class (EnvIs from) ≡ true) × (goes_of row i.class ≡ Some (record i.class { env = to }))
    → Renumbered row i (without_empty_operations row i) (route_number i) machine_number
renumbered_at row from to i inner routing (b, g) = Renumbered-led to i (routing (env_number-injective _ from (eqb-true _ _ b))) inner row g

pub renumbered_39 : (i : Instance) → Inner i → Applies 39 i → Renumbered 39 i (without_empty_operations 39 i) (route_number i) machine_number
unfolding goes_of table
renumbered_39 i inner h =
    renumbered_at 39 F2 J2Short i inner (λ e. record { flow = ap kind_of e; job = refl; fixed = two_machines i e inner; fits = omega (arith, two_machines i e inner) }) (part_alone _ _ h)

pub renumbered_40 : (i : Instance) → Inner i → Applies 40 i → Renumbered 40 i (without_empty_operations 40 i) (route_number i) machine_number
unfolding goes_of table
renumbered_40 i inner h = renumbered_at 40 F J i inner (λ e. record { flow = ap kind_of e; job = refl; fixed = tt; fits = omega (arith, inner.conditions.machines.1) }) (part_alone _ _ h)
