-- The row from equal times to unit times: both instances have the same schedules on another scale.
use Rattle.std.proofs.Common.{◌≡◌, ℕ, ◌+◌, ◌*◌, ◌<◌, ◌≤◌, ◌⊎◌, Bool, true, false, List, length, get_or, map, inl, inr, ℤ, pos, nat_abs, ◌+ℤ◌, ◌*ℤ◌, ◌≤ℤ◌, Some, unwrap_or}
use Rattle.std.proofs.Common.{refl, sym, ap, subst, ◌∙◌, arith, ◌^◌}
use Rattle.std.specs.Prelude.{◌||◌}
use Rattle.std.proofs.lemmas.Bool.{eqb-true}
use Rattle.std.proofs.lemmas.Int.{ints}
use Rattle.std.proofs.lemmas.Nat.{mul-le}
use Rattle.std.proofs.lemmas.List.{length-map, get_or-map}
use Rattle.std.proofs.lemmas.List.Elements.{All-map}
use Rattle.std.proofs.lemmas.List.Sorted.{IsPermutation-refl}
use Rattle.msp_class.specs.declared.class.Env.{Env}
use Rattle.msp_class.specs.declared.class.Times.TheVariants.{Unit as UnitTimes, Equal}
use Rattle.msp_class.specs.declared.class.Crit.TheVariants.{Cmax, SumC, SumWC}
use Rattle.msp_class.specs.declared.environments.EnvKind.{EnvKind}
use Rattle.msp_class.specs.declared.environments.EnvKind.TheVariants.{Identical, Uniform, JobShop}
use Rattle.msp_class.specs.Env.{kind_of}
use Rattle.msp_class.proofs.RankLemmas.{flag_number-injective, times_number-injective, crit_number-injective}
use Rattle.msp_class.proofs.IntegerRing.{pos-le, one-*ℤ, zero-*ℤ, +ℤ_idr, *ℤ_assoc, *ℤ_comm, *ℤ-mono, *ℤ-mono_nonneg, ≤ℤ_trans, ≤ℤ_of_same}
use Rattle.msp_class.specs.declared.sizes.TheConstants.{MOST_JOBS, MOST_OPERATIONS, GREATEST_EQUAL_TIME, GREATEST_UNIT}
use Rattle.msp_instance.specs.declared.Need.{Need}
use Rattle.msp_instance.specs.declared.Job.{Job}
use Rattle.msp_instance.specs.declared.Instance.{Instance}
use Rattle.msp_instance.specs.Instance.{no_need, no_job, job_at, common_time}
use Rattle.msp_instance.specs.Conditions.{Limits, IsJobOf, HasShape, HasTimes, HasRelease, Inner, inner_limits, least_time, greatest_time}
use Rattle.msp_pieces.specs.declared.Schedule.{Schedule}
use Rattle.msp_pieces.specs.Feasible.{Feasible}
use Rattle.msp_pieces.specs.Cost.{cost_of, end_of}
use Rattle.msp_pieces.proofs.feasible.OneMachine.{both_true}
use Rattle.msp_pieces.proofs.feasible.Frames.{IsShaped, IsShaped-from_conditions, job_at-map}
use Rattle.msp_pieces.proofs.changes.Busy.{busy_moment-lengths}
use Rattle.msp_pieces.proofs.lists.Permuted.{Feasible-permutation, last_end-permutation}
use Rattle.msp_pieces.proofs.changes.UnitTimes.{IsUnitOf, IsUnitOf-from_conditions, IsUnheaded, IsPlain, Feasible-to_unit, Feasible-from_unit, end_of-closed_le, cost-plain}
use Rattle.msp_table.specs.Rows.{goes_of, table}
use Rattle.msp_route.specs.Law.{Applies, IsLower, IsPositive, IsForth, IsBack, IsReordered}
use Rattle.msp_route.specs.Bounds.{EndsBy}
use Rattle.msp_route.specs.declared.bounds.TheConstants.{GREATEST_CLOSED_UP}
use Rattle.msp_route.proofs.InnerChanges.{changed, Inner-changed, HasNearDues-map}
use Rattle.msp_route.proofs.Applied.{part_and_condition}
use Rattle.msp_plain.specs.Equal.{unit_need, unit_job, led_to_unit, over_time, closed, closed_up}
use Rattle.msp_route.specs.Rates.{by_common_time}
use Rattle.msp_plain.specs.laws.Lengths.{lengths_of_units}

-- ---- where the row applies
one_true : (a b c : Bool) → (a || b || c) ≡ true → (a ≡ true) ⊎ ((b ≡ true) ⊎ (c ≡ true))
one_true true b c h = inl refl
one_true false true c h = inr (inl refl)
one_true false false c h = inr (inr h)

pub record LeadsToUnit (i : Instance) : Type 0 where
  pub times : i.class.times ≡ Equal
  pub heads : i.class.heads ≡ false
  pub plain : IsPlain i.class.crit
  pub goes : goes_of 54 i.class ≡ Some (record i.class { times = UnitTimes })

pub leads_54 : (i : Instance) → Applies 54 i → LeadsToUnit i
unfolding goes_of table
leads_54 i h =
    let (b, g, e) = part_and_condition _ _ _ h in
    let (none, crit) = both_true _ _ g in
    record {
      times = times_number-injective _ Equal (eqb-true _ _ b);
      heads = flag_number-injective _ false (eqb-true _ _ none);
      plain = elim (one_true _ _ _ crit) [
        | inl a ↦ inl (crit_number-injective _ Cmax (eqb-true _ _ a))
        | inr o ↦ elim o [ inl a ↦ inr (inl (crit_number-injective _ SumC (eqb-true _ _ a))) | inr a ↦ inr (inr (crit_number-injective _ SumWC (eqb-true _ _ a))) ]
      ];
      goes = e;
    }

-- ---- the lower instance
abbrev pub unit_of : Instance → Instance
unit_of i = changed i i.class.order i.class.heads UnitTimes i.class.crit (map unit_job i.jobs)

pub led_is : (i : Instance) → LeadsToUnit i → led_to_unit i ≡ unit_of i
led_is i h = ap (λ o. record i { class = unwrap_or o i.class; jobs = map unit_job i.jobs }) h.goes

shape_of_units : (k : EnvKind) (e : Env) (m : ℕ) (needs : List Need) → HasShape k e m needs → HasShape k e m (map unit_need needs)
shape_of_units Identical e m needs h = (length-map needs unit_need ∙ h.0, All-map (λ n. n.machine ≡ 0) unit_need needs h.1)
shape_of_units Uniform e m needs h = (length-map needs unit_need ∙ h.0, All-map (λ n. n.machine ≡ 0) unit_need needs h.1)
shape_of_units JobShop e m needs h = record {
  some = omega (arith, h.some, length-map needs unit_need);
  few = omega (arith, h.few, length-map needs unit_need);
  machines = All-map (λ n. n.machine < m) unit_need needs h.machines;
  moves = λ k d l. let more = length-map needs unit_need in
      let here = get_or-map unit_need needs k d d (omega arith) in
      let next = get_or-map unit_need needs (k + 1) d d (omega arith) in
      λ e. h.moves k d (omega arith) (sym (ap (λ n. n.machine) here) ∙ e ∙ ap (λ n. n.machine) next);
}
shape_of_units _ e m needs h = (
  length-map needs unit_need ∙ h.0,
  λ k l. let inside : k < length needs = omega (arith, length-map needs unit_need) in
      ap (λ n. n.machine) (get_or-map unit_need needs k no_need no_need inside) ∙ h.1 k inside,
)

least_of_units : (k : EnvKind) → least_time k UnitTimes ≤ 1
least_of_units Identical = omega arith
least_of_units _ = omega arith

greatest_of_units : (k : EnvKind) → 1 ≤ greatest_time (inner_limits k) UnitTimes
greatest_of_units Identical = omega arith
greatest_of_units _ = omega arith

unit_inner : (i : Instance) → Inner i → Inner (unit_of i)
unit_inner i inner = Inner-changed i i.class.order i.class.heads UnitTimes i.class.crit (map unit_job i.jobs) (length-map i.jobs unit_job)
    (All-map (IsJobOf (inner_limits (kind_of i.class.env)) (unit_of i)) unit_job i.jobs (λ k d l. own (get_or i.jobs k d) (inner.conditions.jobs k d l)))
    inner.conditions.arcs (λ j l. inner.conditions.degree j (omega (arith, length-map i.jobs unit_job))) (HasNearDues-map _ i (unit_of i) unit_job refl inner.dues) inner
  where
    own : (a : Job) → IsJobOf (inner_limits (kind_of i.class.env)) i a → IsJobOf (inner_limits (kind_of i.class.env)) (unit_of i) (unit_job a)
    own a h = record {
      needs = record {
        shape = shape_of_units (kind_of i.class.env) i.class.env i.machines a.needs h.needs.shape;
        times = All-map (λ n. (least_time (kind_of i.class.env) UnitTimes ≤ n.time) × (n.time ≤ greatest_time (inner_limits (kind_of i.class.env)) UnitTimes)) unit_need a.needs
            (λ k d l. (least_of_units (kind_of i.class.env), greatest_of_units (kind_of i.class.env)));
        some = let (k, n, l, e, p) = h.needs.some in (k, unit_need n, omega (arith, length-map a.needs unit_need), get_or-map unit_need a.needs k n (unit_need n) l ∙ ap unit_need e, omega arith);
      };
      times = All-map (λ n. n.time ≡ 1) unit_need a.needs (λ k d l. refl);
      release = h.release;
      due = h.due;
      weight = h.weight;
      curve = h.curve;
    }

-- ---- costs
-- a cost times a unit, where both are on another scale
translated_forth : (e : ℕ) (x y d : ℤ) → pos 0 ≤ℤ d → x ≤ℤ (pos 1 *ℤ y) → ((pos e *ℤ x) *ℤ d) ≤ℤ (((pos 1 *ℤ y) +ℤ (pos 0 *ℤ d)) *ℤ (d *ℤ pos e))
translated_forth e x y d p h =
    subst (λ z. z ≤ℤ (((pos 1 *ℤ y) +ℤ (pos 0 *ℤ d)) *ℤ (d *ℤ pos e))) (sym (*ℤ_assoc (pos e) x d))
    (subst (λ z. (pos e *ℤ (x *ℤ d)) ≤ℤ z) (turned ∙ ap (λ z. z *ℤ (d *ℤ pos e)) (sym plain))
    (*ℤ-mono e (right (subst (λ z. x ≤ℤ z) (one-*ℤ y) h))))
  where
    plain : (pos 1 *ℤ y) +ℤ (pos 0 *ℤ d) ≡ y
    plain = ap (λ z. (pos 1 *ℤ y) +ℤ z) (zero-*ℤ d) ∙ +ℤ_idr (pos 1 *ℤ y) ∙ one-*ℤ y

    turned : pos e *ℤ (y *ℤ d) ≡ y *ℤ (d *ℤ pos e)
    turned = *ℤ_comm (pos e) (y *ℤ d) ∙ *ℤ_assoc y d (pos e)

    right : x ≤ℤ y → (x *ℤ d) ≤ℤ (y *ℤ d)
    right l = subst (λ z. z ≤ℤ (y *ℤ d)) (*ℤ_comm d x) (subst (λ z. (d *ℤ x) ≤ℤ z) (*ℤ_comm d y) (*ℤ-mono_nonneg d p l))

translated_back : (e : ℕ) (x y d u : ℤ) → pos 0 ≤ℤ d → u ≡ d → x ≤ℤ (pos e *ℤ y) → (((pos 1 *ℤ x) +ℤ (pos 0 *ℤ u)) *ℤ d) ≤ℤ ((pos e *ℤ y) *ℤ u)
translated_back e x y d u p same h =
    subst (λ z. (((pos 1 *ℤ x) +ℤ (pos 0 *ℤ z)) *ℤ d) ≤ℤ ((pos e *ℤ y) *ℤ z)) (sym same)
    (subst (λ z. (z *ℤ d) ≤ℤ ((pos e *ℤ y) *ℤ d)) (sym plain) (right h))
  where
    plain : (pos 1 *ℤ x) +ℤ (pos 0 *ℤ d) ≡ x
    plain = ap (λ z. (pos 1 *ℤ x) +ℤ z) (zero-*ℤ d) ∙ +ℤ_idr (pos 1 *ℤ x) ∙ one-*ℤ x

    right : x ≤ℤ (pos e *ℤ y) → (x *ℤ d) ≤ℤ ((pos e *ℤ y) *ℤ d)
    right l = subst (λ z. z ≤ℤ ((pos e *ℤ y) *ℤ d)) (*ℤ_comm d x) (subst (λ z. (d *ℤ x) ≤ℤ z) (*ℤ_comm d (pos e *ℤ y)) (*ℤ-mono_nonneg d p l))

-- ---- both halves
module _ (i : Instance) (inner : Inner i) (leads : LeadsToUnit i) where
  abbrev e : ℕ
  e = common_time i

  abbrev j : Instance
  j = unit_of i

  abbrev limits : Limits
  limits = inner_limits (kind_of i.class.env)

  shared : IsUnitOf (common_time i) i (unit_of i)
  shared = IsUnitOf-from_conditions limits i j inner.conditions leads.times refl refl refl refl refl

  no_heads : IsUnheaded i j
  no_heads = record {
    upper = none;
    lower = λ k l. let inside : k < length i.jobs = omega (arith, length-map i.jobs unit_job) in ap (λ a. a.release) (job_at-map i j unit_job refl k inside) ∙ none k inside;
    arcs = refl;
  }
    where
      none : (k : ℕ) → k < length i.jobs → (job_at i k).release ≡ 0
      none k l = subst (λ b. HasRelease limits b (job_at i k).release) leads.heads (inner.conditions.jobs k no_job l).release

  here : IsShaped i
  here = IsShaped-from_conditions limits i inner.conditions

  there : IsShaped j
  there = IsShaped-from_conditions limits j (unit_inner i inner).conditions

  weights : (a : ℕ) → a < length i.jobs → (job_at i a).weight ≡ (job_at j a).weight
  weights a l = sym (ap (λ x. x.weight) (job_at-map i j unit_job refl a l))

  forth : (s : Schedule) → IsForth (by_common_time i) i j s (over_time e s)
  forth s f = (
    Feasible-to_unit e i j shared here there inner.conditions.machines.0 no_heads s f,
    translated_forth e (cost_of j (over_time e s)) (cost_of i s) s.unit (≤ℤ_trans (pos-le (omega arith)) f.unit)
        (cost-plain j i (over_time e s) s 1 leads.plain refl
        (length-map i.jobs unit_job) (λ a l. sym (weights a (omega (arith, length-map i.jobs unit_job)))) (λ a l. ≤ℤ_of_same (sym (one-*ℤ (end_of s a))))),
  )

  back : (t s : Schedule) → IsReordered (closed_up e t) s → IsBack (by_common_time i) i j t s
  back t s h f = (
    Feasible-permutation i (closed_up e t) s (sym h.unit) h.pieces (Feasible-from_unit e i j shared here there inner.conditions.machines.0 no_heads t f),
    translated_back e (cost_of i s) (cost_of j t) t.unit s.unit (≤ℤ_trans (pos-le (omega arith)) f.unit) h.unit
        (cost-plain i j s t e leads.plain refl (sym (length-map i.jobs unit_job)) weights (λ a l.
        subst (λ x. x ≤ℤ (pos e *ℤ end_of t a)) (last_end-permutation (closed e t.pieces) s.pieces h.pieces a)
        (end_of-closed_le e i j shared here there inner.conditions.machines.0 no_heads t f a))),
  )

  small_time : common_time i ≤ GREATEST_EQUAL_TIME
  small_time =
      let first = inner.conditions.jobs 0 no_job inner.conditions.some in
      let (k, n, l, s, p) = first.needs.some in
      (subst (λ t. HasTimes (least_time (kind_of i.class.env) t) (greatest_time limits t) (job_at i 0).needs) leads.times first.needs.times 0 no_need (omega (arith, l))).1

  -- what is closed ends early
  closed_early : (t : Schedule) → Feasible j t → t.unit ≤ℤ GREATEST_UNIT → EndsBy GREATEST_CLOSED_UP (closed_up e t)
  closed_early t f small = All-map (λ p. p.to ≤ℤ GREATEST_CLOSED_UP) _ t.pieces (λ k d l.
      ≤ℤ_trans (busy_moment-lengths e t.pieces (get_or t.pieces k d).to) (bounded e t.unit _ small_time f.unit small (lengths_of_units limits j t (unit_inner i inner).conditions refl f)))
    where
      bounded : (e : ℕ) (unit : ℤ) (m : ℕ) → e ≤ GREATEST_EQUAL_TIME → pos 1 ≤ℤ unit → unit ≤ℤ GREATEST_UNIT → m ≤ MOST_JOBS * MOST_OPERATIONS * nat_abs unit → pos (e * m) ≤ℤ GREATEST_CLOSED_UP
      bounded e unit m h one k l =
          let low : nat_abs unit ≤ nat_abs GREATEST_UNIT = omega (arith, ints) in
          let most = mul-le e m GREATEST_EQUAL_TIME (MOST_JOBS * MOST_OPERATIONS * nat_abs GREATEST_UNIT) h (omega arith) in
          pos-le (omega arith)

-- ---- as the row states them
module _ (i : Instance) (inner : Inner i) (applies : Applies 54 i) where
  leads : LeadsToUnit i
  leads = leads_54 i applies

  lower_unit : IsLower 54 i (unit_of i)
  lower_unit = record { inner = unit_inner i inner; class = leads.goes }

  pub lower_54 : IsLower 54 i (led_to_unit i)
  lower_54 = subst (IsLower 54 i) (sym (led_is i leads)) lower_unit

  pub positive_54 : IsPositive (by_common_time i)
  positive_54 = record { factor = omega arith; scale = (shared i inner leads).some }

pub forth_54 : (i : Instance) (s : Schedule) → Inner i → Applies 54 i → IsForth (by_common_time i) i (led_to_unit i) s (over_time (common_time i) s)
forth_54 i s inner applies = let leads = leads_54 i applies in subst (λ j. IsForth (by_common_time i) i j s (over_time (common_time i) s)) (sym (led_is i leads)) (forth i inner leads s)

pub reordered_54 : (i : Instance) (t s : Schedule) → Inner i → Applies 54 i → IsReordered (closed_up (common_time i) t) s → IsBack (by_common_time i) i (led_to_unit i) t s
reordered_54 i t s inner applies h = let leads = leads_54 i applies in subst (λ j. IsBack (by_common_time i) i j t s) (sym (led_is i leads)) (back i inner leads t s h)

pub back_54 : (i : Instance) (t : Schedule) → Inner i → Applies 54 i → IsBack (by_common_time i) i (led_to_unit i) t (closed_up (common_time i) t)
back_54 i t inner applies = reordered_54 i t (closed_up (common_time i) t) inner applies (record { unit = refl; pieces = IsPermutation-refl (closed (common_time i) t.pieces) })

pub early_54 : (i : Instance) (t : Schedule) → Inner i → Applies 54 i → Feasible (led_to_unit i) t → t.unit ≤ℤ GREATEST_UNIT → EndsBy GREATEST_CLOSED_UP (closed_up (common_time i) t)
early_54 i t inner applies f small = let leads = leads_54 i applies in closed_early i inner leads t (subst (λ j. Feasible j t) (led_is i leads) f) small
