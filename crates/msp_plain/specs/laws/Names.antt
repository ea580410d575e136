-- The rows that change the class alone: the instances at both ends have the same schedules at the same costs.
use Rattle.std.proofs.Common.{Bool, ◌≡◌, ℕ, ◌<◌, ◌≤◌, true, false, List, length, All, Any, ℤ, pos, ◌-ℤ◌, ◌*ℤ◌, ◌≤ℤ◌, Some, refl, sym, ap, subst, ◌∙◌, arith}
use Rattle.std.specs.Int.{int_max}
use Rattle.std.proofs.lemmas.Bool.{eqb-true}
use Rattle.std.proofs.lemmas.Int.{ints}
use Rattle.msp_class.specs.declared.class.Order.{Order}
use Rattle.msp_class.specs.declared.class.Order.TheVariants.{Free, Chains, Intree, Outtree, Prec}
use Rattle.msp_class.specs.declared.class.Times.{Times}
use Rattle.msp_class.specs.declared.class.Times.TheVariants.{General, Unit as UnitTimes, Equal}
use Rattle.msp_class.specs.declared.class.Crit.{Crit}
use Rattle.msp_class.specs.declared.class.Crit.TheVariants.{Cmax, Lmax, SumC, SumWC, SumU, SumWU, SumT, SumWT}
use Rattle.msp_class.specs.declared.environments.EnvKind.{EnvKind}
use Rattle.msp_class.specs.declared.environments.EnvKind.TheVariants.{Identical}
use Rattle.msp_class.specs.Env.{kind_of}
use Rattle.msp_class.specs.Crit.{is_greatest, uses_due, uses_weight, uses_curve}
use Rattle.msp_class.proofs.RankLemmas.{flag_number-injective, order_number-injective, times_number-injective, crit_number-injective}
use Rattle.msp_class.proofs.IntegerRing.{*ℤ-zero, one-*ℤ, int_max-right}
use Rattle.msp_instance.specs.declared.Need.{Need}
use Rattle.msp_instance.specs.declared.Arc.{Arc}
use Rattle.msp_instance.specs.declared.Job.{Job}
use Rattle.msp_instance.specs.declared.Instance.{Instance}
use Rattle.msp_instance.specs.Instance.{no_need, no_job, job_at, common_time}
use Rattle.msp_instance.specs.Conditions.{Limits, IsJobOf, HasTimes, HasSameTimes, HasRelease, HasDue, HasWeight, HasCurve, HasArcs, HasDegree, Inner, inner_limits}
use Rattle.msp_instance.specs.Conditions.{least_time, greatest_time}
use Rattle.msp_pieces.specs.Cost.{job_cost, lateness, tardiness, late}
use Rattle.msp_pieces.proofs.costs.Charges.{SameCharges, SameCharges-from_class}
use Rattle.msp_pieces.proofs.changes.Serves.{SameWork-from_class}
use Rattle.msp_table.specs.Rows.{goes_of, table}
use Rattle.msp_route.specs.Law.{Applies}
use Rattle.msp_route.specs.Changes.{led}
use Rattle.msp_route.proofs.InnerChanges.{changed, Inner-recast, IsJobOf-recast}
use Rattle.msp_route.proofs.KindLimits.{inner_factor-some}
use Rattle.msp_route.specs.Stays.{SchedulesStay}
use Rattle.msp_route.proofs.Alike.{Alike-led, stay-alike}
use Rattle.msp_route.proofs.Applied.{part_alone}

-- ---- the class changes
abbrev limits_of : Instance → Limits
limits_of i = inner_limits (kind_of i.class.env)

-- in it the jobs keep the limits, and are charged the same
stay_recast : (row : ℕ) (i : Instance) (o : Order) (h : Bool) (t : Times) (c : Crit) → goes_of row i.class ≡ Some (record i.class { order = o; heads = h; times = t; crit = c })
    → ((a : Job) → IsJobOf (limits_of i) i a → IsJobOf (limits_of i) (changed i o h t c i.jobs) a) → HasArcs o i.arcs → ((j : ℕ) → j < length i.jobs → HasDegree o i.arcs j)
    → SameCharges i (changed i o h t c i.jobs) → Inner i → SchedulesStay row i (led row i)
stay_recast row i o h t c g own arcs degree charges inner = stay-alike (Alike-led row i (record i.class { order = o; heads = h; times = t; crit = c }) i.jobs g (record {
  lower = record { inner = Inner-recast i o h t c own arcs degree inner; class = g };
  work = SameWork-from_class i (record i.class { order = o; heads = h; times = t; crit = c }) refl refl;
  charges = charges;
})) inner

-- ---- precedence
-- arcs of the one order are arcs of the other
record OrderGrows (from to : Order) : Type 0 where
  arcs : (l : List Arc) → HasArcs from l → HasArcs to l
  degree : (l : List Arc) (j : ℕ) → HasArcs from l → HasDegree from l j → HasDegree to l j

no_arcs : OrderGrows Free Chains
no_arcs = record {
  arcs = λ l e. omega (arith, ap length e);
  degree = λ l j e h. subst (λ k. HasDegree Chains k j) (sym e) (omega arith, omega arith);
}

leaving_once : OrderGrows Chains Intree
leaving_once = record { arcs = λ l h. h; degree = λ l j e h. h.0 }

entering_once : OrderGrows Chains Outtree
entering_once = record { arcs = λ l h. h; degree = λ l j e h. h.1 }

any_leaving : OrderGrows Intree Prec
any_leaving = record { arcs = λ l h. h; degree = λ l j e h. tt }

any_entering : OrderGrows Outtree Prec
any_entering = record { arcs = λ l h. h; degree = λ l j e h. tt }

stay_order : (row : ℕ) (from to : Order) → OrderGrows from to
    → (i : Instance) → i.class.order ≡ from → goes_of row i.class ≡ Some (record i.class { order = to }) → Inner i → SchedulesStay row i (led row i)
stay_order row from to grows i e g inner = stay_recast row i to i.class.heads i.class.times i.class.crit g
    (λ a h. IsJobOf-recast h.needs refl refl h.needs.times h.times h.release h.due h.weight h.curve)
    (grows.arcs i.arcs arcs) (λ j l. grows.degree i.arcs j arcs (subst (λ o. HasDegree o i.arcs j) e (inner.conditions.degree j l)))
    (SameCharges-from_class i (record i.class { order = to }) refl) inner
  where
    arcs : HasArcs from i.arcs
    arcs = subst (λ o. HasArcs o i.arcs) e inner.conditions.arcs

pub stay_1 : (i : Instance) → Inner i → Applies 1 i → SchedulesStay 1 i (led 1 i)
unfolding goes_of table
stay_1 i inner h = let (b, g) = part_alone _ _ h in stay_order 1 Free Chains no_arcs i (order_number-injective _ Free (eqb-true _ _ b)) g inner

pub stay_2 : (i : Instance) → Inner i → Applies 2 i → SchedulesStay 2 i (led 2 i)
unfolding goes_of table
stay_2 i inner h = let (b, g) = part_alone _ _ h in stay_order 2 Chains Intree leaving_once i (order_number-injective _ Chains (eqb-true _ _ b)) g inner

pub stay_3 : (i : Instance) → Inner i → Applies 3 i → SchedulesStay 3 i (led 3 i)
unfolding goes_of table
stay_3 i inner h = let (b, g) = part_alone _ _ h in stay_order 3 Chains Outtree entering_once i (order_number-injective _ Chains (eqb-true _ _ b)) g inner

pub stay_4 : (i : Instance) → Inner i → Applies 4 i → SchedulesStay 4 i (led 4 i)
unfolding goes_of table
stay_4 i inner h = let (b, g) = part_alone _ _ h in stay_order 4 Intree Prec any_leaving i (order_number-injective _ Intree (eqb-true _ _ b)) g inner

pub stay_5 : (i : Instance) → Inner i → Applies 5 i → SchedulesStay 5 i (led 5 i)
unfolding goes_of table
stay_5 i inner h = let (b, g) = part_alone _ _ h in stay_order 5 Outtree Prec any_entering i (order_number-injective _ Outtree (eqb-true _ _ b)) g inner

-- ---- release dates
none_in_range : (l : Limits) (r : ℕ) → HasRelease l false r → HasRelease l true r
none_in_range l r h = omega (arith, h)

pub stay_6 : (i : Instance) → Inner i → Applies 6 i → SchedulesStay 6 i (led 6 i)
unfolding goes_of table
stay_6 i inner h = let (b, g) = part_alone _ _ h in by (flag_number-injective _ false (eqb-true _ _ b)) g
  where
    by : i.class.heads ≡ false → goes_of 6 i.class ≡ Some (record i.class { heads = true }) → SchedulesStay 6 i (led 6 i)
    by e g = stay_recast 6 i i.class.order true i.class.times i.class.crit g
        (λ a h. IsJobOf-recast h.needs refl refl h.needs.times h.times (none_in_range (limits_of i) a.release (subst (λ b. HasRelease (limits_of i) b a.release) e h.release)) h.due h.weight h.curve)
        inner.conditions.arcs inner.conditions.degree (SameCharges-from_class i (record i.class { heads = true }) refl) inner

-- ---- times
stay_times : (row : ℕ) (to : Times) (i : Instance)
    → ((a : Job) → IsJobOf (limits_of i) i a → HasTimes (least_time (kind_of i.class.env) to) (greatest_time (limits_of i) to) a.needs × HasSameTimes to (common_time i) a.needs) →
    goes_of row i.class ≡ Some (record i.class { times = to }) → Inner i → SchedulesStay row i (led row i)
stay_times row to i own g inner = stay_recast row i i.class.order i.class.heads to i.class.crit g
    (λ a h. let t = own a h in IsJobOf-recast h.needs refl refl t.0 t.1 h.release h.due h.weight h.curve)
    inner.conditions.arcs inner.conditions.degree (SameCharges-from_class i (record i.class { times = to }) refl) inner

least_times : (k : EnvKind) → (least_time k Equal ≡ 1) × (least_time k General ≤ 1)
least_times Identical = (refl, omega arith)
least_times _ = (refl, omega arith)

some_need : (needs : List Need) → Any (λ n. 1 ≤ n.time) needs → 0 < length needs
some_need needs (k, n, l, e, p) = omega arith

-- where every time is 1, so is the one that all share
units : (i : Instance) (a : Job) → i.class.times ≡ UnitTimes → IsJobOf (limits_of i) i a → All (λ n. n.time ≡ 1) a.needs
units i a e h = subst (λ t. HasSameTimes t (common_time i) a.needs) e h.times

shared_unit : (i : Instance) → i.class.times ≡ UnitTimes → Inner i → common_time i ≡ 1
shared_unit i e inner = let h = inner.conditions.jobs 0 no_job inner.conditions.some in units i (job_at i 0) e h 0 no_need (some_need (job_at i 0).needs h.needs.some)

pub stay_7 : (i : Instance) → Inner i → Applies 7 i → SchedulesStay 7 i (led 7 i)
unfolding goes_of table
stay_7 i inner h = let (b, g) = part_alone _ _ h in by (times_number-injective _ UnitTimes (eqb-true _ _ b)) g
  where
    by : i.class.times ≡ UnitTimes → goes_of 7 i.class ≡ Some (record i.class { times = Equal }) → SchedulesStay 7 i (led 7 i)
    by e g = stay_times 7 Equal i (λ a h. let ones = units i a e h in
        ((λ k d l. (omega (arith, ones k d l, (least_times (kind_of i.class.env)).0), omega (arith, ones k d l))), (λ k d l. ones k d l ∙ sym (shared_unit i e inner)))) g inner

equal_in_range : (k : EnvKind) (needs : List Need) → HasTimes (least_time k Equal) (greatest_time (inner_limits k) Equal) needs
    → HasTimes (least_time k General) (greatest_time (inner_limits k) General) needs
equal_in_range k needs h = λ j d l. let t = h j d l in (omega (arith, t.0, least_times k), omega (arith, t.1, inner_factor-some k))

pub stay_53 : (i : Instance) → Inner i → Applies 53 i → SchedulesStay 53 i (led 53 i)
unfolding goes_of table
stay_53 i inner h = let (b, g) = part_alone _ _ h in by (times_number-injective _ Equal (eqb-true _ _ b)) g
  where
    by : i.class.times ≡ Equal → goes_of 53 i.class ≡ Some (record i.class { times = General }) → SchedulesStay 53 i (led 53 i)
    by e g = stay_times 53 General i
        (λ a h. (equal_in_range (kind_of i.class.env) a.needs (subst (λ t. HasTimes (least_time (kind_of i.class.env) t) (greatest_time (limits_of i) t) a.needs) e h.needs.times), tt)) g inner

-- ---- the criterion
-- jobs of the one criterion are jobs of the other, and are charged the same
record CritGrows (from to : Crit) : Type 0 where
  join : is_greatest from ≡ is_greatest to
  due : (l : Limits) (d : ℤ) → HasDue l (uses_due from) d → HasDue l (uses_due to) d
  weight : (w : ℕ) → HasWeight (uses_weight from) w → HasWeight (uses_weight to) w
  curve : uses_curve from ≡ uses_curve to
  charge : (l : Limits) (a : Job) → HasDue l (uses_due from) a.due → HasWeight (uses_weight from) a.weight → (unit x : ℤ) → pos 0 ≤ℤ x → job_cost from unit a x ≡ job_cost to unit a x

stay_crit : (row : ℕ) (from to : Crit) → CritGrows from to
    → (i : Instance) → i.class.crit ≡ from → goes_of row i.class ≡ Some (record i.class { crit = to }) → Inner i → SchedulesStay row i (led row i)
stay_crit row from to grows i e g inner = stay_recast row i i.class.order i.class.heads i.class.times to g
    (λ a h. IsJobOf-recast h.needs refl refl h.needs.times h.times h.release (grows.due (limits_of i) a.due (due_of a h))
    (grows.weight a.weight (weight_of a h)) (subst (λ b. HasCurve (limits_of i) b a.curve) (ap uses_curve e ∙ grows.curve) h.curve))
    inner.conditions.arcs inner.conditions.degree (record {
      count = refl;
      join = ap is_greatest e ∙ grows.join;
      charge = λ k l unit x u p. let h = inner.conditions.jobs k no_job l in
          ap (λ c. job_cost c unit (job_at i k) x) e ∙ grows.charge (limits_of i) (job_at i k) (due_of (job_at i k) h) (weight_of (job_at i k) h) unit x p;
    }) inner
  where
    due_of : (a : Job) → IsJobOf (limits_of i) i a → HasDue (limits_of i) (uses_due from) a.due
    due_of a h = subst (λ c. HasDue (limits_of i) (uses_due c) a.due) e h.due

    weight_of : (a : Job) → IsJobOf (limits_of i) i a → HasWeight (uses_weight from) a.weight
    weight_of a h = subst (λ c. HasWeight (uses_weight c) a.weight) e h.weight

no_date : (l : Limits) (d : ℤ) → HasDue l false d → HasDue l true d
no_date l d e = (omega (arith, ints, e), omega (arith, ints, e))

no_weight : (w : ℕ) → HasWeight false w → HasWeight true w
no_weight w e = (omega (arith, e), omega (arith, e))

-- what is charged at a due date of 0, and by a weight of 1
never_due : (unit : ℤ) (a : Job) (x : ℤ) → a.due ≡ pos 0 → x ≡ lateness unit a x
never_due unit a x e = sym (ap (λ d. x -ℤ (unit *ℤ d)) e ∙ ap (λ z. x -ℤ z) (*ℤ-zero unit) ∙ kept x)
  where
    kept : (x : ℤ) → (x -ℤ pos 0) ≡ x
    kept x = omega (arith, ints)

never_late : (unit : ℤ) (a : Job) (x : ℤ) → pos 0 ≤ℤ x → a.due ≡ pos 0 → x ≡ int_max (pos 0) (lateness unit a x)
never_late unit a x p e = sym (int_max-right (pos 0) x p) ∙ ap (int_max (pos 0)) (never_due unit a x e)

once : (w : ℕ) (x : ℤ) → w ≡ 1 → x ≡ pos w *ℤ x
once w x e = sym (ap (λ n. pos n *ℤ x) e ∙ one-*ℤ x)

pub stay_8 : (i : Instance) → Inner i → Applies 8 i → SchedulesStay 8 i (led 8 i)
unfolding goes_of table
stay_8 i inner h = let (b, g) = part_alone _ _ h in stay_crit 8 Cmax Lmax
    (record { join = refl; due = no_date; weight = λ w h. h; curve = refl; charge = λ l a d w unit x p. never_due unit a x d }) i (crit_number-injective _ Cmax (eqb-true _ _ b)) g inner

pub stay_10 : (i : Instance) → Inner i → Applies 10 i → SchedulesStay 10 i (led 10 i)
unfolding goes_of table
stay_10 i inner h = let (b, g) = part_alone _ _ h in stay_crit 10 SumC SumWC
    (record { join = refl; due = λ l d h. h; weight = no_weight; curve = refl; charge = λ l a d w unit x p. once a.weight x w }) i (crit_number-injective _ SumC (eqb-true _ _ b)) g inner

pub stay_11 : (i : Instance) → Inner i → Applies 11 i → SchedulesStay 11 i (led 11 i)
unfolding goes_of table
stay_11 i inner h = let (b, g) = part_alone _ _ h in stay_crit 11 SumC SumT
    (record { join = refl; due = no_date; weight = λ w h. h; curve = refl; charge = λ l a d w unit x p. never_late unit a x p d }) i (crit_number-injective _ SumC (eqb-true _ _ b)) g inner

pub stay_12 : (i : Instance) → Inner i → Applies 12 i → SchedulesStay 12 i (led 12 i)
unfolding goes_of table
stay_12 i inner h = let (b, g) = part_alone _ _ h in
    stay_crit 12 SumWC SumWT (record { join = refl; due = no_date; weight = λ w h. h; curve = refl; charge = λ l a d w unit x p. ap (λ z. pos a.weight *ℤ z) (never_late unit a x p d) })
    i (crit_number-injective _ SumWC (eqb-true _ _ b)) g inner

pub stay_13 : (i : Instance) → Inner i → Applies 13 i → SchedulesStay 13 i (led 13 i)
unfolding goes_of table
stay_13 i inner h = let (b, g) = part_alone _ _ h in
    stay_crit 13 SumT SumWT (record { join = refl; due = λ l d h. h; weight = no_weight; curve = refl; charge = λ l a d w unit x p. once a.weight (tardiness unit a x) w })
    i (crit_number-injective _ SumT (eqb-true _ _ b)) g inner

pub stay_14 : (i : Instance) → Inner i → Applies 14 i → SchedulesStay 14 i (led 14 i)
unfolding goes_of table
stay_14 i inner h = let (b, g) = part_alone _ _ h in stay_crit 14 SumU SumWU
    (record { join = refl; due = λ l d h. h; weight = no_weight; curve = refl; charge = λ l a d w unit x p. once a.weight (late unit a x) w }) i (crit_number-injective _ SumU (eqb-true _ _ b)) g inner
