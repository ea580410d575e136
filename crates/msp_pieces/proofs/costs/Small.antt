-- The numbers of an inner instance over a bounded unit are small.
use Rattle.std.proofs.Common.{◌≡◌, ℕ, suc, ◌+◌, ◌*◌, ◌<◌, ◌≤◌, Bool, true, false, List, length}
use Rattle.std.proofs.Common.{ℤ, pos, negsuc, ◌+ℤ◌, ◌*ℤ◌, ◌≤ℤ◌, unsigned_abs, ◌⊎◌, inl, inr, All, get_or, sum_by, refl, sym, subst, arith, lit≤}
use Rattle.std.proofs.lemmas.Int.{ints}
use Rattle.std.proofs.lemmas.Nat.{mul-le}
use Rattle.msp_class.specs.declared.sizes.TheConstants.{MOST_STEPS, GREATEST, GREATEST_EQUAL_TIME, GREATEST_UNIT}
use Rattle.msp_class.specs.declared.environments.EnvKind.{EnvKind}
use Rattle.msp_class.specs.declared.environments.EnvKind.TheVariants.{Unrelated}
use Rattle.msp_class.specs.Env.{kind_of}
use Rattle.msp_class.specs.Crit.{uses_due, uses_weight, uses_curve}
use Rattle.msp_class.proofs.IntegerRing.{natural_some}
use Rattle.msp_class.proofs.Sums.{sum_by-mono, sum_by-constant}
use Rattle.msp_instance.specs.declared.Curve.{Curve}
use Rattle.msp_instance.specs.declared.Job.{Job}
use Rattle.msp_instance.specs.declared.Step.{Step}
use Rattle.msp_instance.specs.declared.Instance.{Instance}
use Rattle.msp_class.specs.declared.class.Times.{Times}
use Rattle.msp_class.specs.declared.class.Times.TheVariants.{Equal}
use Rattle.msp_instance.specs.Instance.{no_curve, no_job, no_need, job_at, need_at}
use Rattle.msp_instance.specs.Conditions.{LiesWithin, Limits, HasRelease, greatest_time, HasWeight, IsCurve, HasCurve, IsJobOf, MeetsConditions, Inner, InClass, inner_limits, text_limits}
use Rattle.msp_pieces.specs.declared.limits.TheConstants.{GREATEST_CARRIED_UNIT}
use Rattle.msp_pieces.specs.declared.Schedule.{Schedule}
use Rattle.msp_pieces.specs.Within.{HasSmallCost, Within, greatest_scaled, greatest_level, AreSmallTimes}
pub use Rattle.msp_instance.proofs.Limits.{due-within as due_within}

-- a product of a number up to u and one within D
pub product_within : (n : ℕ) (x : ℤ) (u D k : ℕ) → n ≤ u → LiesWithin D x → u * D ≤ k → LiesWithin k (pos n *ℤ x)
product_within n (pos a) u D k h w l = let small : a ≤ D = omega (arith, ints, w) in let p = mul-le n a u D h small in (omega (arith, ints), omega (arith, ints))
product_within n (negsuc a) u D k h w l = let small : suc a ≤ D = omega (arith, ints, w) in let p = mul-le n (suc a) u D h small in (omega (arith, ints), omega (arith, ints))

weight_small : (b : Bool) (w : ℕ) → HasWeight b w → w ≤ GREATEST
weight_small true w h = h.1
weight_small false w h = omega (arith, h)

no_curve-is : (l : Limits) → IsCurve l no_curve
no_curve-is l = record { slope = omega arith; base = (omega (arith, ints), omega (arith, ints)); few = omega arith; steps = λ k d h. absurd (omega (arith, h)) }

curve_is : (l : Limits) (b : Bool) (c : Curve) → HasCurve l b c → IsCurve l c
curve_is l true c h = h
curve_is l false c h = subst (IsCurve l) (sym h) (no_curve-is l)

adds_small : (T : ℕ) (steps : List Step) → length steps ≤ MOST_STEPS → All (λ s. (s.above ≤ T) × (s.add ≤ T)) steps → sum_by (λ s. s.add) steps ≤ MOST_STEPS * T
adds_small T steps few h =
    let each = sum_by-mono (λ s. s.add) (λ _. T) steps (λ k d l. (h k d l).1) in
    let same = sum_by-constant T steps in
    let most = mul-le (length steps) T MOST_STEPS T few (omega arith) in
    omega arith

-- the limits and the unit are small together
pub record FitTogether (l : Limits) (u : ℕ) : Type 0 where
  pub dates : u * l.greatest_date ≤ greatest_scaled
  pub times : u * l.greatest_time ≤ greatest_scaled
  pub levels : u * (l.greatest_date + MOST_STEPS * l.greatest_time) ≤ greatest_level
  pub releases : l.greatest_release ≤ l.greatest_date
  pub equal : GREATEST_EQUAL_TIME ≤ l.greatest_time

pub HasSmallCost-from : (l : Limits) (u n : ℕ) (i : Instance) (j : Job) → FitTogether l u → n ≤ u → IsJobOf l i j → HasSmallCost (pos n) j
HasSmallCost-from l u n i j fit small h =
    let curve : IsCurve l j.curve = curve_is l (uses_curve i.class.crit) j.curve h.curve in
    let adds = adds_small l.greatest_time j.curve.steps curve.few curve.steps in
    record {
      due = product_within n j.due u _ _ small (due_within l (uses_due i.class.crit) j.due h.due) fit.dates;
      base = λ a k. product_within n (j.curve.base +ℤ pos a) u (l.greatest_date + MOST_STEPS * l.greatest_time) _ small
          (omega (arith, ints, curve.base.0), omega (arith, ints, curve.base.1, k, adds)) fit.levels;
      few = curve.few;
      steps = λ k d t. product_within n (pos (get_or j.curve.steps k d).above) u l.greatest_time _ small (omega (arith, ints), omega (arith, ints, (curve.steps k d t).0)) fit.times;
      slope = curve.slope;
      weight = weight_small (uses_weight i.class.crit) j.weight h.weight;
    }

-- limits that an instance meets, which are small together with the unit
pub record HasLimits (i : Instance) (n : ℕ) : Type 0 where
  pub limits : Limits
  pub most : ℕ
  pub together : FitTogether limits most
  pub unit : n ≤ most
  pub conditions : MeetsConditions limits i

by_kind : (kind : EnvKind) (i : Instance) (n : ℕ) → MeetsConditions (inner_limits kind) i
    → n ≤ unsigned_abs GREATEST_UNIT → (kind ≡ Unrelated → InClass i ⊎ (pos n ≤ℤ GREATEST_CARRIED_UNIT)) → HasLimits i n
by_kind Unrelated i n h small scaled = elim (scaled refl) [
  | inl text ↦ record {
    limits = text_limits;
    most = unsigned_abs GREATEST_UNIT;
    together = record { dates = lit≤ tt; times = lit≤ tt; levels = lit≤ tt; releases = lit≤ tt; equal = lit≤ tt };
    unit = small;
    conditions = text.conditions;
  }
  | inr low ↦ record {
    limits = inner_limits Unrelated;
    most = unsigned_abs GREATEST_CARRIED_UNIT;
    together = record { dates = lit≤ tt; times = lit≤ tt; levels = lit≤ tt; releases = lit≤ tt; equal = lit≤ tt };
    unit = omega (arith, ints);
    conditions = h;
  }
]
by_kind kind i n h small scaled = record {
  limits = inner_limits kind;
  most = unsigned_abs GREATEST_UNIT;
  together = record { dates = lit≤ tt; times = lit≤ tt; levels = lit≤ tt; releases = lit≤ tt; equal = lit≤ tt };
  unit = small;
  conditions = h;
}

-- the unit as a natural number, with such limits
pub small_unit : (i : Instance) (s : Schedule) → Inner i → Within i s → (n : ℕ) × (s.unit ≡ pos n) × HasLimits i n
small_unit i s h w =
    let n = natural_some s.unit (omega (arith, ints, w.unit.0)) in
    let unit_is = n.1 in
    let Q : ℤ → Type 0 = λ x. InClass i ⊎ (x ≤ℤ GREATEST_CARRIED_UNIT) in
    (n.0, n.1, by_kind (kind_of i.class.env) i n.0 h.conditions (omega (arith, ints, w.unit.1, unit_is)) (λ e. subst Q n.1 (w.scaled e)))

-- under the bounds of the calls each job's numbers are small
pub small_costs : (i : Instance) (s : Schedule) → Inner i → Within i s → All (HasSmallCost s.unit) i.jobs
small_costs i s h w =
    let (n, unit_is, has) = small_unit i s h w in
    subst (λ (x : ℤ). All (HasSmallCost x) i.jobs) (sym unit_is)
    (λ k d t. HasSmallCost-from has.limits has.most n i _ has.together has.unit (has.conditions.jobs k d t))

release_small : (l : Limits) (b : Bool) (r : ℕ) → l.greatest_release ≤ l.greatest_date → HasRelease l b r → LiesWithin l.greatest_date (pos r)
release_small l true r le h = (omega (arith, ints), omega (arith, ints, h, le))
release_small l false r le h = (omega (arith, ints), omega (arith, ints, h))

-- release dates, and times, over the unit
pub small_releases : (i : Instance) (s : Schedule) → Inner i → Within i s → (j : ℕ) → j < length i.jobs → LiesWithin greatest_scaled (s.unit *ℤ pos (job_at i j).release)
small_releases i s h w j l =
    let (n, unit_is, has) = small_unit i s h w in
    subst (λ x. LiesWithin greatest_scaled (x *ℤ pos (job_at i j).release)) (sym unit_is)
    (product_within n (pos (job_at i j).release) has.most has.limits.greatest_date _ has.unit
    (release_small has.limits i.class.heads (job_at i j).release has.together.releases (has.conditions.jobs j no_job l).release) has.together.dates)

time_small : (l : Limits) (t : Times) (x : ℕ) → GREATEST_EQUAL_TIME ≤ l.greatest_time → x ≤ greatest_time l t → LiesWithin l.greatest_time (pos x)
time_small l Equal x some h = (omega (arith, ints), omega (arith, ints, h, some))
time_small l _ x some h = (omega (arith, ints), omega (arith, ints, h))

pub small_times : (i : Instance) (s : Schedule) → Inner i → Within i s → AreSmallTimes i s.unit
small_times i s h w j o l inside =
    let (n, unit_is, has) = small_unit i s h w in
    let times = (has.conditions.jobs j no_job l).needs.times o no_need inside in
    subst (λ x. LiesWithin greatest_scaled (x *ℤ pos (need_at i j o).time)) (sym unit_is)
    (product_within n (pos (need_at i j o).time) has.most has.limits.greatest_time _ has.unit (time_small has.limits i.class.times (need_at i j o).time has.together.equal times.1) has.together.times)
