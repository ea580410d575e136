-- What limits can be met: all jobs can be laid for them, or they are exceeded; and the ranges in which the least ones lie.
use Rattle.std.proofs.Common.{◌≡◌, ℕ, zero, suc, ◌+◌, ◌*◌, ◌<◌, ◌≤◌, ◌⊎◌, inl, inr, Bool, true, false, List, [], ◌∷◌, length, get_or, map, ℤ, pos, nat_abs, ◌+ℤ◌, ◌-ℤ◌, ◌*ℤ◌, ◌≤ℤ◌, add-one}
use Rattle.std.proofs.Common.{All, sum_by, refl, sym, ap, ap₂, subst, subst₂, ◌∙◌, arith}
use Rattle.std.specs.Prelude.{Option, Some, None, MatchOption, IsTrue, is_some, ◌↔◌, int_lt}
use Rattle.std.specs.Int.{int_max, int_min}
use Rattle.std.specs.List.{range_with_len}
use Rattle.std.proofs.lemmas.Bool.{cases_lt, both_ways, cond_both}
use Rattle.std.proofs.lemmas.Int.{ints, clamps}
use Rattle.std.proofs.lemmas.List.{length-map, map-id}
use Rattle.std.proofs.lemmas.List.Elements.{All-nil, All-map}
use Rattle.std.proofs.Math.Nat.{mul-le-mul_left}
use Rattle.msp_class.specs.declared.sizes.TheConstants.{MOST_JOBS, GREATEST}
use Rattle.msp_class.specs.Sums.{total_below}
use Rattle.msp_class.proofs.IntegerRing.{zero-le-pos, ≤ℤ_trans, ≤ℤ_refl, ≤ℤ_antisym, *ℤ_comm, *ℤ-mono, *ℤ-sub, +ℤ_mono}
use Rattle.msp_class.proofs.IntegerRing.{*ℤ-zero, *ℤ-cancel_pos, *ℤ-nonneg}
use Rattle.msp_class.proofs.Sums.{OnceBelow, OnceBelow-range, OnceBelow-from_permutation, length-OnceBelow, total_below-scale}
use Rattle.msp_instance.specs.declared.Instance.{Instance}
use Rattle.msp_instance.specs.Instance.{job_at, no_job, no_need}
use Rattle.msp_instance.specs.Conditions.{LiesWithin}
use Rattle.msp_pieces.specs.declared.Piece.{Piece}
use Rattle.msp_pieces.specs.BackToBack.{time_at}
use Rattle.msp_pieces.proofs.lists.Places.{sum_by-places, total_below-within}
use Rattle.msp_pieces.proofs.feasible.OfClass.{IsOfClass, IsOfClass-from}
use Rattle.msp_route.specs.Halving.{IsLeastBound, IsRange}
use Rattle.msp_stairs.specs.declared.climb.Limits.{Limits}
use Rattle.msp_stairs.specs.declared.climb.Stair.{Stair}
use Rattle.msp_stairs.specs.declared.climb.Task.{Task}
use Rattle.msp_stairs.specs.Stairs.{stairs_class, IsForced}
use Rattle.msp_stairs.specs.Bounds.{greatest_bound, CanMeet, CanEnd, no_later, ended_by, at, work_at, capped, deadline, IsReady}
use Rattle.msp_stairs.specs.Steps.{ends_of, of_all, of_first, IsBelow, level, HasClimbed, IsClimbed, IsTooLate, task_for, IsLaid}
use Rattle.msp_stairs.proofs.Climbing.{Falls-none, AreBacked-none}
use Rattle.msp_stairs.proofs.Steps.{CanLay, HasClimbed-next, IsTooLate-found}
use Rattle.msp_stairs.proofs.Laying.{laying}
use Rattle.msp_stairs.proofs.Forced.{forced_bounds, forced_above, deadline-late}
use Rattle.msp_stairs.proofs.Makespan.{makespan-natural}
use Rattle.msp_stairs.proofs.Ends.{never_late}
use Rattle.msp_stairs.proofs.Schedules.{meets, can_end}
use Rattle.msp_stairs.proofs.Tasks.{held, kept}
use Rattle.std.proofs.lemmas.Simd.{map-map}

-- ---- no job is laid yet
level_ends : (xs : List ℕ) → All (λ e. e ≡ 0) (ends_of (map (λ k. record { machine = k; end = 0 }) xs))
level_ends xs = All-map (λ e. e ≡ 0) (λ s. s.end) (map (λ k. record { machine = k; end = 0 }) xs) (All-map (λ s. s.end ≡ 0) (λ k. record { machine = k; end = 0 }) xs (λ k d l. refl))

pub HasClimbed-none : (i : Instance) (order : List ℕ) (limits : Limits) → HasClimbed i order limits 0 (level i.machines) []
HasClimbed-none i order limits = record {
  falls = λ x l b. Falls-none (deadline i limits (at order x)) (ends_of (level i.machines)) (level_ends (range_with_len 0 i.machines));
  backed = AreBacked-none (λ x. work_at i (at order x)) (λ x. deadline i limits (at order x)) 0 (ends_of (level i.machines)) (level_ends (range_with_len 0 i.machines));
  on_stairs = record {
    machines = simp (map-map, map-id) (OnceBelow-range i.machines);
    hold = λ k d l. All-nil (λ p. p.machine ≡ (get_or (level i.machines) k d).machine → nat_abs p.to ≤ (get_or (level i.machines) k d).end);
    timed = λ k d l. absurd (omega (arith, l));
    place = λ k d l. absurd (omega (arith, l));
    apart = λ a b d l k. absurd (omega (arith, k));
  };
  worked = record {
    jobs = λ k d l. absurd (omega (arith, l));
    apart = λ a b d l k. absurd (omega (arith, k));
    work = λ x l. absurd (omega (arith, l));
    ends = λ k d l. absurd (omega (arith, l));
    few = omega arith;
    cuts = λ x l. absurd (omega (arith, l));
  };
}

-- ---- times, and deadlines in order
pub time_some : (i : Instance) → IsOfClass i stairs_class → (j : ℕ) → j < length i.jobs → (1 ≤ time_at i j) × (time_at i j ≤ GREATEST)
time_some i h j l = let n = (h.jobs j no_job l).needs in let t = n.times 0 no_need (omega (arith, n.shape.0)) in (t.0, t.1)

capped-mono : (end : Option ℤ) (x y : ℤ) → x ≤ℤ y → nat_abs (int_max (pos 0) (capped end x)) ≤ nat_abs (int_max (pos 0) (capped end y))
capped-mono None x y h = omega (arith, ints, clamps, h)
capped-mono (Some end) x y h = omega (arith, ints, clamps, h)

-- a deadline is as late as the end, or that of the lateness
capped_or_free : (a e : ℤ) (w : ℕ) → e ≡ pos w
    → (w ≤ nat_abs (int_max (pos 0) (int_min a e))) ⊎ (nat_abs (int_max (pos 0) (int_min a e)) ≡ nat_abs (int_max (pos 0) a))
capped_or_free a e w is = cond_both (int_lt e a) e a
    (λ x. (w ≤ nat_abs (int_max (pos 0) x)) ⊎ (nat_abs (int_max (pos 0) x) ≡ nat_abs (int_max (pos 0) a)))
    (λ _. inl (omega (arith, ints, clamps, is))) (λ _. inr refl)

pub bound_kept : (x : ℤ) → LiesWithin greatest_bound x → held x ≡ x
bound_kept x h = kept greatest_bound x (omega arith) h

range_held : (Met : ℤ → Type 0) (low high : ℤ) → LiesWithin greatest_bound low → LiesWithin greatest_bound high
    → Met high → ((b : ℤ) → Met b → low ≤ℤ b) → IsRange Met greatest_bound (record { low = held low; high = held high })
range_held Met low high p q met least = subst₂ (λ x y. IsRange Met greatest_bound (record { low = x; high = y }))
    (sym (bound_kept low p)) (sym (bound_kept high q)) (record { met = met; least = least; low = p; high = q })

module _ (i : Instance) (order : List ℕ) (r : IsReady i order) where
  abbrev n : ℕ
  n = length i.jobs

  abbrev m : ℕ
  m = i.machines

  abbrev due : Limits → ℕ → ℕ
  due limits x = deadline i limits (at order x)

  pub h : IsOfClass i stairs_class
  h = IsOfClass-from i stairs_class r.class r.inner

  pub once : OnceBelow n order
  once = OnceBelow-from_permutation r.by_date.all

  pub CanLay-ready : (limits : Limits) → CanLay i order limits
  CanLay-ready limits = record {
    once = once;
    rises = λ x y l b. elim (cases_lt x y) [
      | inl before ↦ capped-mono limits.end _ _ (+ℤ_mono (*ℤ-mono m (r.by_date.rising x y 0 before b)) (≤ℤ_refl limits.late))
      | inr last ↦ let same : x ≡ y = omega (arith, l, last) in rw same (omega arith)
    ];
    works = λ x l. omega (arith, mul-le-mul_left m (time_some i h (at order x) (once.within x 0 l)).0, h.machine);
    machine = h.machine;
  }

  -- ---- the steps as the code takes them
  pub some_stairs : {limits : Limits} {k : ℕ} {stairs : List Stair} {ps : List Piece} → HasClimbed i order limits k stairs ps → 0 < length stairs
  some_stairs {stairs = stairs} c = omega (arith, sym (length-map stairs (λ s. s.machine)) ∙ length-OnceBelow c.on_stairs.machines, h.machine)

  module _ (limits : Limits) (k : ℕ) (old new : List Stair) (before after : List Piece)
      (inside : k < length order) (c : HasClimbed i order limits k old before) (t : Task) (is : t ≡ task_for i limits (at order k)) where
    pub laid_on : (b : Bool) → b ≡ true → IsLaid t old before b new after → HasClimbed i order limits (k + 1) new after
    laid_on b e laid = HasClimbed-next i order limits (CanLay-ready limits) k old new before after inside c (subst₂ (λ t b. IsLaid t old before b new after) is e laid)

    pub laid_off : (b : Bool) → b ≡ false → IsLaid t old before b new after → IsTooLate i order limits
    laid_off b e laid = IsTooLate-found i order limits (CanLay-ready limits) k old new before after inside c (subst₂ (λ t b. IsLaid t old before b new after) is e laid)

  -- ---- all limits can be met or are exceeded
  climbs : (limits : Limits) (k : ℕ) → k ≤ length order → ((stairs : List Stair) × (ps : List Piece) × HasClimbed i order limits k stairs ps) ⊎ IsTooLate i order limits
  climbs limits zero l = inl (level m, [], HasClimbed-none i order limits)
  climbs limits (suc k) l = elim (climbs limits k (omega (arith, l))) [
    | inl (stairs, ps, c) ↦ elim (laying (task_for i limits (at order k)) stairs ps (some_stairs c)) [
      | inl (new, after, laid) ↦
          let climbed = HasClimbed-next i order limits (CanLay-ready limits) k stairs new ps after (omega (arith, l)) c laid in
          inl (new, after, subst (λ q. HasClimbed i order limits q new after) (add-one k) climbed)
      | inr high ↦ inr (IsTooLate-found i order limits (CanLay-ready limits) k stairs stairs ps ps (omega (arith, l)) c high)
    ]
    | inr late ↦ inr late
  ]

  pub decides : (bound : ℤ) → CanMeet i bound ⊎ IsTooLate i order (no_later bound)
  decides bound = elim (climbs (no_later bound) (length order) (omega arith)) [
    | inl (stairs, ps, c) ↦ inl (meets i h order (no_later bound) (CanLay-ready (no_later bound)) ps (stairs, c))
    | inr late ↦ inr late
  ]

  -- ---- what is met is not exceeded
  pub all_forced : (bound y : ℤ) → CanMeet i bound → IsForced i y → y ≤ℤ bound
  all_forced bound y (s, f, met) forced = *ℤ-cancel_pos s.unit (omega (arith, ints, f.unit))
      (subst₂ (λ p q. p ≤ℤ q) (*ℤ_comm y s.unit) (*ℤ_comm bound s.unit) (≤ℤ_trans (forced_bounds i h s f y forced) met))

  pub not_met : (bound : ℤ) → IsTooLate i order (no_later bound) → CanMeet i bound → ⊥
  not_met bound late can =
      let (y, forced, above) = forced_above i order once r.by_date.rising bound late in
      omega (arith, ints, all_forced bound y can forced, above)

  -- ---- the least bound
  module _ (bound : ℤ) (least : IsLeastBound (CanMeet i) bound) where
    pub reached : IsForced i bound
    reached = elim (decides (bound -ℤ pos 1)) [
      | inl can ↦ absurd (omega (arith, ints, least.least (bound -ℤ pos 1) can))
      | inr late ↦
          let (y, forced, above) = forced_above i order once r.by_date.rising (bound -ℤ pos 1) late in
          subst (IsForced i) (≤ℤ_antisym (all_forced bound y least.met forced) (omega (arith, ints, above))) forced
    ]

  -- ---- the range
  pub first_inside : at order 0 < n
  first_inside = once.within 0 0 (omega (arith, length-OnceBelow once, h.some))

  -- different places have no more together than all
  of_all-within : (f : ℕ → ℕ) (k : ℕ) (xs : List ℕ) → IsBelow k xs → of_all f xs ≤ total_below k f
  of_all-within f k [] b = omega arith
  of_all-within f k (x ∷ xs) b = omega (arith, of_all-within f x xs b.1, total_below-within f (suc x) k (omega (arith, b.0)))

  all_work : total_below (length order) (λ x. work_at i (at order x)) ≡ m * sum_by (time_at i) order
  all_work = total_below-scale (length order) m (λ x. time_at i (at order x)) ∙ ap (λ x. m * x) (sym (sum_by-places (time_at i) order 0))

  -- a first deadline as late as all jobs together take is late enough
  enough_first : (due : ℕ → ℕ) (q x : ℕ) (xs : List ℕ) → 1 ≤ q → IsBelow (length order) (x ∷ xs) → m * sum_by (time_at i) order ≤ due x
      → of_first due q (x ∷ xs) < of_all (λ x. work_at i (at order x)) (x ∷ xs) → ⊥
  enough_first due zero x xs some below enough late = absurd (omega (arith, some))
  enough_first due (suc q) x xs some below enough late = omega (arith, late, of_all-within (λ x. work_at i (at order x)) (length order) (x ∷ xs) below, all_work, enough)

  high_is : (high : ℤ) → high ≡ pos m *ℤ (pos (sum_by (time_at i) order) -ℤ (job_at i (at order 0)).due) → CanMeet i high
  high_is high is = elim (decides high) [ inl can ↦ can | inr (set, below, late) ↦ absurd (never set below late) ]
    where
      first : m * sum_by (time_at i) order ≤ due (no_later high) 0
      first =
          let parts = *ℤ-sub (pos m) (pos (sum_by (time_at i) order)) (job_at i (at order 0)).due in
          omega (arith, ints, is, parts, deadline-late i (no_later high) (at order 0))

      never : (set : List ℕ) → IsBelow (length order) set → of_first (due (no_later high)) m set < of_all (λ x. work_at i (at order x)) set → ⊥
      never [] below late = omega (arith, late)
      never (x ∷ xs) below late =
          let later = (CanLay-ready (no_later high)).rises 0 x (omega arith) below.0 in
          enough_first (due (no_later high)) m x xs h.machine below (omega (arith, first, later)) late

  pub some_order : 0 < length order
  some_order = omega (arith, length-OnceBelow once, h.some)

  pub few_order : length order ≤ MOST_JOBS
  few_order = omega (arith, length-OnceBelow once, h.few)

  pub range_is : (low high : ℤ) → low ≡ pos m *ℤ (pos (time_at i (at order 0)) -ℤ (job_at i (at order 0)).due)
      → high ≡ pos m *ℤ (pos (sum_by (time_at i) order) -ℤ (job_at i (at order 0)).due) → LiesWithin greatest_bound low → LiesWithin greatest_bound high
      → IsRange (CanMeet i) greatest_bound (record { low = held low; high = held high })
  range_is low high e f p q = range_held (CanMeet i) low high p q (high_is high f) (λ b can. all_forced b low can (inl (at order 0, first_inside, e)))

  -- ---- as the code asks, and solves
  answers : (Met : Type 0) (limits : Limits) → (IsTooLate i order limits → Met → ⊥) → ((ps : List Piece) → IsClimbed i order limits ps → Met)
      → (r : Option (List Piece)) → MatchOption r (IsTooLate i order limits) (IsClimbed i order limits) → (b : Bool) → b ≡ is_some r → IsTrue b ↔ Met
  answers Met limits never made None late b e = ((λ t. absurd (both_ways b e t)), (λ can. absurd (never late can)))
  answers Met limits never made (Some ps) climbed b e = ((λ t. made ps climbed), (λ can. e))

  pub asked : (bound : ℤ) (r : Option (List Piece)) → MatchOption r (IsTooLate i order (no_later bound)) (IsClimbed i order (no_later bound)) → (b : Bool) → b ≡ is_some r → IsTrue b ↔ CanMeet i bound
  asked bound = answers (CanMeet i bound) (no_later bound) (not_met bound) (meets i h order (no_later bound) (CanLay-ready (no_later bound)))

  -- ---- the least end of the schedules that are no later
  pub not_ended : (late end : ℤ) → IsTooLate i order (ended_by late end) → CanEnd i late end → ⊥
  not_ended late end over (s, f, in_time, ended) = never_late i h s f late end in_time ended order once r.by_date.rising (CanLay-ready (ended_by late end)).rises over

  makes_end : (late end : ℤ) (ps : List Piece) → IsClimbed i order (ended_by late end) ps → CanEnd i late end
  makes_end late end ps made = can_end i h order (ended_by late end) (CanLay-ready (ended_by late end)) ps made end refl

  pub asked_end : (late end : ℤ) (r : Option (List Piece))
      → MatchOption r (IsTooLate i order (ended_by late end)) (IsClimbed i order (ended_by late end)) → (b : Bool) → b ≡ is_some r → IsTrue b ↔ CanEnd i late end
  asked_end late end = answers (CanEnd i late end) (ended_by late end) (not_ended late end) (makes_end late end)

  -- all jobs one after another end soon enough: a deadline is then that of the lateness alone, or as late as all jobs together take
  last_is : (late end : ℤ) → end ≡ pos (m * sum_by (time_at i) order) → CanMeet i late → CanEnd i late end
  last_is late end is can = elim (climbs (ended_by late end) (length order) (omega arith)) [
    | inl (stairs, ps, c) ↦ makes_end late end ps (stairs, c)
    | inr (set, below, over) ↦ absurd (never set below over)
  ]
    where
      first_same : (q k : ℕ) (xs : List ℕ) → IsBelow k xs → ((x : ℕ) → x < k → due (ended_by late end) x ≡ due (no_later late) x)
          → of_first (due (ended_by late end)) q xs ≡ of_first (due (no_later late)) q xs
      first_same zero k xs b e = refl
      first_same (suc q) k [] b e = refl
      first_same (suc q) k (x ∷ xs) b e = ap₂ (λ y z. y + z) (e x b.0) (first_same q x xs b.1 (λ y c. e y (omega (arith, c, b.0))))

      never : (set : List ℕ) → IsBelow (length order) set → of_first (due (ended_by late end)) m set < of_all (λ x. work_at i (at order x)) set → ⊥
      never [] below over = omega (arith, over)
      never (x ∷ xs) below over = elim (cases_lt (due (ended_by late end) x) (m * sum_by (time_at i) order)) [
        | inl less ↦ not_met late (x ∷ xs, below, subst (λ y. y < of_all (λ x. work_at i (at order x)) (x ∷ xs)) (first_same m (suc x) (x ∷ xs) (omega arith, below.1) (same less)) over) can
        | inr enough ↦ enough_first (due (ended_by late end)) m x xs h.machine below enough over
      ]
        where
          same : due (ended_by late end) x < m * sum_by (time_at i) order → (y : ℕ) → y < suc x → due (ended_by late end) y ≡ due (no_later late) y
          same less y l = elim (capped_or_free ((pos m *ℤ (job_at i (at order y)).due) +ℤ late) end (m * sum_by (time_at i) order) is) [
            | inl enough ↦ absurd (omega (arith, less, enough, (CanLay-ready (ended_by late end)).rises y x (omega (arith, l)) below.0))
            | inr e ↦ e
          ]

  pub range_of_ends : (late high : ℤ) → CanMeet i late → high ≡ pos m *ℤ (pos (sum_by (time_at i) order) -ℤ pos 0) → LiesWithin greatest_bound high
      → IsRange (CanEnd i late) greatest_bound (record { low = pos 0; high = held high })
  range_of_ends late high can e p =
      let last = last_is late high (omega (arith, ints, e, *ℤ-sub (pos m) (pos (sum_by (time_at i) order)) (pos 0))) can in
      range_held (CanEnd i late) (pos 0) high (omega (arith, ints), omega (arith, ints)) p last (λ b ends.
      let (s, f, in_time, ended) = ends in
      *ℤ-cancel_pos s.unit (omega (arith, ints, f.unit))
      (subst₂ (λ x y. x ≤ℤ y) (sym (*ℤ-zero s.unit)) (*ℤ_comm b s.unit) (≤ℤ_trans (*ℤ-nonneg (zero-le-pos m) (makespan-natural s)) ended)))
