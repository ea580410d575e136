-- Changed instances keep the inner limits.
use Rattle.std.proofs.Common.{◌≡◌, ℕ, ◌*◌, ◌<◌, pos, ◌-ℤ◌, ◌≤ℤ◌, Bool, List, length, get_or, map, All, refl, sym, ap, subst₂, ◌∙◌, arith}
use Rattle.std.specs.Prelude.{slice_index_or}
use Rattle.std.proofs.lemmas.List.{length-map}
use Rattle.msp_class.specs.declared.class.Class.{Class}
use Rattle.msp_class.specs.declared.class.Order.{Order}
use Rattle.msp_class.specs.declared.class.Times.{Times}
use Rattle.msp_class.specs.declared.class.Crit.{Crit}
use Rattle.msp_class.specs.Env.{kind_of}
use Rattle.msp_class.specs.Crit.{uses_due, uses_weight, uses_curve}
use Rattle.msp_class.specs.declared.sizes.TheConstants.{GREATEST}
use Rattle.msp_instance.specs.declared.Job.{Job}
use Rattle.msp_instance.specs.declared.Instance.{Instance}
use Rattle.msp_instance.specs.Instance.{no_need, job_at, common_time}
use Rattle.msp_pieces.proofs.feasible.Frames.{job_at-map}
use Rattle.msp_instance.specs.Conditions.{Limits, HasMachines, HasSpeeds, HasSmallMultiple, IsJobOf, HasNeeds, HasShape, HasTimes, HasSameTimes, HasRelease, HasDue, HasWeight, HasCurve, HasArcs}
use Rattle.msp_instance.specs.Conditions.{HasDegree, HasNearDues, Inner, inner_limits, inner_factor, least_time, greatest_time}

-- the instance with another class, other machines and other jobs
abbrev pub remade : Instance → Class → ℕ → List ℕ → List Job → Instance
remade i c m speeds jobs = record i { class = c; machines = m; speeds = speeds; jobs = jobs }

-- the instance with other jobs, in a class with another order, release dates, times or criterion
abbrev pub changed : Instance → Order → Bool → Times → Crit → List Job → Instance
changed i o h t c jobs = record i { class = record i.class { order = o; heads = h; times = t; crit = c }; jobs = jobs }

-- the arcs stay, and the class, the machines and the jobs are others
pub Inner-remade : (i : Instance) (c : Class) (m : ℕ) (speeds : List ℕ) (jobs : List Job) → length jobs ≡ length i.jobs → HasMachines (remade i c m speeds jobs) → HasSpeeds (kind_of c.env) m speeds →
    HasSmallMultiple speeds → All (IsJobOf (inner_limits (kind_of c.env)) (remade i c m speeds jobs)) jobs → HasArcs c.order i.arcs → ((j : ℕ) → j < length jobs → HasDegree c.order i.arcs j) →
    HasNearDues (2 * GREATEST * inner_factor (kind_of c.env)) (remade i c m speeds jobs) → Inner i → Inner (remade i c m speeds jobs)
Inner-remade i c m speeds jobs same machines rates multiple own arcs degree dues inner = let was = inner.conditions in record {
  conditions = record {
    some = omega (arith, same, was.some);
    few = omega (arith, same, was.few);
    machines = machines;
    speeds = rates;
    multiple = multiple;
    jobs = own;
    arcs = arcs;
    ends = λ k d l. let e = was.ends k d l in (omega (arith, same, e.0), omega (arith, same, e.1));
    once = was.once;
    degree = degree;
  };
  dues = dues;
  acyclic = let (order, listed, forward) = inner.acyclic in (order, record { whole = listed.whole ∙ sym same; each = λ j l. listed.each j (omega (arith, same)) }, forward);
}

-- the machines stay too
pub Inner-changed : (i : Instance) (o : Order) (h : Bool) (t : Times) (c : Crit) (jobs : List Job) → length jobs ≡ length i.jobs →
    All (IsJobOf (inner_limits (kind_of i.class.env)) (changed i o h t c jobs)) jobs → HasArcs o i.arcs → ((j : ℕ) → j < length jobs → HasDegree o i.arcs j) →
    HasNearDues (2 * GREATEST * inner_factor (kind_of i.class.env)) (changed i o h t c jobs) → Inner i → Inner (changed i o h t c jobs)
Inner-changed i o h t c jobs same own arcs degree dues inner = let was = inner.conditions in
    Inner-remade i (record i.class { order = o; heads = h; times = t; crit = c }) i.machines i.speeds jobs same was.machines was.speeds was.multiple own arcs degree dues inner

-- a job of another class on the same machines, where its times and the rest fit that
pub IsJobOf-recast : {l : Limits} {i j : Instance} {a : Job} → HasNeeds l i a.needs → j.class.env ≡ i.class.env → j.machines ≡ i.machines
    → HasTimes (least_time (kind_of j.class.env) j.class.times) (greatest_time l j.class.times) a.needs → HasSameTimes j.class.times (common_time j) a.needs → HasRelease l j.class.heads a.release
    → HasDue l (uses_due j.class.crit) a.due → HasWeight (uses_weight j.class.crit) a.weight → HasCurve l (uses_curve j.class.crit) a.curve → IsJobOf l j a
IsJobOf-recast {l} {i} {j} {a} was env machines times shared release due weight curve = record {
  needs = record { shape = subst₂ (λ e m. HasShape (kind_of e) e m a.needs) (sym env) (sym machines) was.shape; times = times; some = was.some };
  times = shared;
  release = release;
  due = due;
  weight = weight;
  curve = curve;
}

-- the same jobs
pub Inner-recast : (i : Instance) (o : Order) (h : Bool) (t : Times) (c : Crit) →
    ((a : Job) → IsJobOf (inner_limits (kind_of i.class.env)) i a → IsJobOf (inner_limits (kind_of i.class.env)) (changed i o h t c i.jobs) a)
    → HasArcs o i.arcs → ((j : ℕ) → j < length i.jobs → HasDegree o i.arcs j) → Inner i → Inner (changed i o h t c i.jobs)
Inner-recast i o h t c own arcs degree inner = Inner-changed i o h t c i.jobs refl (λ k d l. own (get_or i.jobs k d) (inner.conditions.jobs k d l)) arcs degree inner.dues inner

-- the common time where each job keeps its needs
pub common_time-map : (i j : Instance) (f : Job → Job) → j.jobs ≡ map f i.jobs → ((a : Job) → (f a).needs ≡ a.needs) → 0 < length i.jobs → common_time j ≡ common_time i
common_time-map i j f e keeps some = ap (λ ns. (slice_index_or ns 0 no_need).time) (ap (λ a. a.needs) (job_at-map i j f e 0 some) ∙ keeps (job_at i 0))

-- due dates lie close together where those of the jobs that are made of others do
pub HasNearDues-map : (width : ℕ) (i j : Instance) (f : Job → Job) → j.jobs ≡ map f i.jobs
    → ((m n : ℕ) → m < length i.jobs → n < length i.jobs → ((f (job_at i m)).due -ℤ (f (job_at i n)).due) ≤ℤ pos width) → HasNearDues width j
HasNearDues-map width i j f e near m n a b =
    subst₂ (λ x y. (x.due -ℤ y.due) ≤ℤ pos width) (sym (job_at-map i j f e m (inside m a))) (sym (job_at-map i j f e n (inside n b))) (near m n (inside m a) (inside n b))
  where
    inside : (k : ℕ) → k < length j.jobs → k < length i.jobs
    inside k l = omega (arith, l, ap length e, length-map i.jobs f)
