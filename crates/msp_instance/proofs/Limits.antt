-- The conditions of a class hold within wider limits, so an instance of a text is an inner one.
use Rattle.std.proofs.Common.{ℕ, ◌*◌, ◌<◌, ◌≤◌, Bool, true, false, length, ℤ, pos, ◌-ℤ◌, ◌≤ℤ◌, arith, lit≤}
use Rattle.std.proofs.lemmas.Int.{ints}
use Rattle.msp_class.specs.declared.environments.EnvKind.{EnvKind}
use Rattle.msp_class.specs.declared.environments.EnvKind.TheVariants.{Identical}
use Rattle.msp_class.specs.Env.{kind_of}
use Rattle.msp_class.specs.Crit.{uses_due}
use Rattle.msp_class.specs.declared.class.Times.{Times}
use Rattle.msp_class.specs.declared.class.Times.TheVariants.{Equal}
use Rattle.msp_class.specs.declared.sizes.TheConstants.{GREATEST}
use Rattle.msp_instance.specs.declared.Curve.{Curve}
use Rattle.msp_instance.specs.declared.Job.{Job}
use Rattle.msp_instance.specs.declared.Instance.{Instance}
use Rattle.msp_instance.specs.Instance.{no_job, job_at}
use Rattle.msp_instance.specs.Conditions.{Limits, text_limits, inner_limits, inner_factor, LiesWithin, greatest_time, HasRelease, HasDue, IsCurve, HasCurve}
use Rattle.msp_instance.specs.Conditions.{IsJobOf, MeetsConditions, InClass, Inner}

-- each limit of the first is within that of the second
pub record AreWithin (l m : Limits) : Type 0 where
  pub times : l.greatest_time ≤ m.greatest_time
  pub releases : l.greatest_release ≤ m.greatest_release
  pub dates : l.greatest_date ≤ m.greatest_date

greatest_time-wider : (l m : Limits) (t : Times) → AreWithin l m → greatest_time l t ≤ greatest_time m t
greatest_time-wider l m Equal w = omega arith
greatest_time-wider l m _ w = w.times

HasRelease-wider : (l m : Limits) (b : Bool) (r : ℕ) → AreWithin l m → HasRelease l b r → HasRelease m b r
HasRelease-wider l m true r w h = omega (arith, w.releases)
HasRelease-wider l m false r w h = h

LiesWithin-wider : (a b : ℕ) (x : ℤ) → a ≤ b → LiesWithin a x → LiesWithin b x
LiesWithin-wider a b x w h = (omega (arith, ints, h.0), omega (arith, ints, h.1))

HasDue-wider : (l m : Limits) (b : Bool) (d : ℤ) → AreWithin l m → HasDue l b d → HasDue m b d
HasDue-wider l m true d w h = LiesWithin-wider _ _ d w.dates h
HasDue-wider l m false d w h = h

IsCurve-wider : (l m : Limits) (c : Curve) → AreWithin l m → IsCurve l c → IsCurve m c
IsCurve-wider l m c w h = record {
  slope = h.slope;
  base = LiesWithin-wider _ _ c.base w.dates h.base;
  few = h.few;
  steps = λ k d t. (omega (arith, w.times, (h.steps k d t).0), omega (arith, w.times, (h.steps k d t).1));
}

HasCurve-wider : (l m : Limits) (b : Bool) (c : Curve) → AreWithin l m → HasCurve l b c → HasCurve m b c
HasCurve-wider l m true c w h = IsCurve-wider l m c w h
HasCurve-wider l m false c w h = h

pub IsJobOf-wider : (l m : Limits) (i : Instance) (j : Job) → AreWithin l m → IsJobOf l i j → IsJobOf m i j
IsJobOf-wider l m i j w h = record {
  needs = record {
    shape = h.needs.shape;
    times = λ k d t. ((h.needs.times k d t).0, omega (arith, (h.needs.times k d t).1, greatest_time-wider l m i.class.times w));
    some = h.needs.some;
  };
  times = h.times;
  release = HasRelease-wider l m _ j.release w h.release;
  due = HasDue-wider l m _ j.due w h.due;
  weight = h.weight;
  curve = HasCurve-wider l m _ j.curve w h.curve;
}

-- what holds within some limits holds within wider ones
pub MeetsConditions-wider : (l m : Limits) (i : Instance) → AreWithin l m → MeetsConditions l i → MeetsConditions m i
MeetsConditions-wider l m i w h = record {
  some = h.some;
  few = h.few;
  machines = h.machines;
  speeds = h.speeds;
  multiple = h.multiple;
  jobs = λ k d t. IsJobOf-wider l m i _ w (h.jobs k d t);
  arcs = h.arcs;
  ends = h.ends;
  once = h.once;
  degree = h.degree;
}

-- the limits of texts are within those that carried instances keep
pub text_limits-inner : (k : EnvKind) → AreWithin text_limits (inner_limits k)
text_limits-inner Identical = record { times = lit≤ tt; releases = lit≤ tt; dates = lit≤ tt }
text_limits-inner _ = record { times = lit≤ tt; releases = lit≤ tt; dates = lit≤ tt }

pub due-within : (l : Limits) (b : Bool) (d : ℤ) → HasDue l b d → LiesWithin l.greatest_date d
due-within l true d h = h
due-within l false d h = (omega (arith, ints, h), omega (arith, ints, h))

-- numbers up to a bound in size are at most its double apart
apart : (a b : ℕ) (x y : ℤ) → 2 * a ≤ b → LiesWithin a x → LiesWithin a y → (x -ℤ y) ≤ℤ pos b
apart a b x y w h k = omega (arith, ints, h.1, k.0)

twice : (k : EnvKind) → 2 * GREATEST ≤ 2 * GREATEST * inner_factor k
twice Identical = lit≤ tt
twice _ = lit≤ tt

-- an instance that belongs to its class within the limits of texts is an inner one
pub Inner-from_class : (i : Instance) → InClass i → Inner i
Inner-from_class i h = record {
  conditions = MeetsConditions-wider text_limits _ i (text_limits-inner (kind_of i.class.env)) h.conditions;
  dues = λ j k a b. apart GREATEST _ _ _ (twice (kind_of i.class.env)) (dated j a) (dated k b);
  acyclic = h.acyclic;
}
  where
    dated : (j : ℕ) → j < length i.jobs → LiesWithin GREATEST (job_at i j).due
    dated j t = due-within text_limits (uses_due i.class.crit) _ (h.conditions.jobs j no_job t).due
