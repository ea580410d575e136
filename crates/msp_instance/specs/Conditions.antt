-- What it means that an instance belongs to its class.
use Rattle.std.specs.Prelude.{◌≡◌, ◌≢◌, ℕ, ◌*◌, ◌<◌, ◌≤◌, Bool, true, false, List, [], length, slice_index_or, slice_get, ℤ, pos, neg_ℤ, ◌-ℤ◌, ◌≤ℤ◌, Some, All, AllPairs, Any}
use Rattle.std.specs.Prelude.{Contains, EachIndex, MatchOption, ⊤, count_by, ◌==◌}
use Rattle.std.specs.List.{AllAdjacentBelow}
use Rattle.msp_class.specs.declared.environments.EnvKind.{EnvKind}
use Rattle.msp_class.specs.declared.environments.EnvKind.TheVariants.{Identical, Uniform, Unrelated, OpenShop, FlowShop, JobShop}
use Rattle.msp_class.specs.Crit.{uses_due, uses_weight, uses_curve}
use Rattle.msp_class.specs.Env.{kind_of, fixed_machines, most_operations}
use Rattle.msp_class.specs.declared.class.Env.{Env}
use Rattle.msp_class.specs.declared.class.Order.{Order}
use Rattle.msp_class.specs.declared.class.Order.TheVariants.{Free, Chains, Intree, Outtree, Prec}
use Rattle.msp_class.specs.declared.class.Times.{Times}
use Rattle.msp_class.specs.declared.class.Times.TheVariants.{General, Unit as UnitTimes, Equal}
use Rattle.msp_instance.specs.declared.Need.{Need}
use Rattle.msp_instance.specs.declared.Curve.{Curve}
use Rattle.msp_instance.specs.declared.Job.{Job}
use Rattle.msp_instance.specs.declared.Arc.{Arc}
use Rattle.msp_instance.specs.declared.Instance.{Instance}
use Rattle.msp_class.specs.declared.sizes.TheConstants.{MOST_JOBS, MOST_MACHINES, MOST_ARCS, MOST_STEPS, GREATEST, GREATEST_SPEED, GREATEST_MULTIPLE, GREATEST_EQUAL_TIME}
use Rattle.msp_instance.specs.Instance.{no_need, no_curve, job_at, common_time}

-- How large the numbers of an instance may be: times, thresholds and adds; release dates; due dates and bases, in size.
pub record Limits : Type 0 where
  pub greatest_time : ℕ
  pub greatest_release : ℕ
  pub greatest_date : ℕ

-- The limits of instance texts.
abbrev pub text_limits : Limits
text_limits = record { greatest_time = GREATEST; greatest_release = GREATEST; greatest_date = GREATEST }

-- The factor by which carried instances on unrelated machines may be larger: the greatest common multiple of speeds.
abbrev pub inner_factor : EnvKind → ℕ
inner_factor Identical = 1
inner_factor Uniform = 1
inner_factor Unrelated = GREATEST_MULTIPLE
inner_factor OpenShop = 1
inner_factor FlowShop = 1
inner_factor JobShop = 1

-- The limits that carried instances keep.
abbrev pub inner_limits : EnvKind → Limits
inner_limits k = record { greatest_time = GREATEST * inner_factor k; greatest_release = 2 * GREATEST * inner_factor k; greatest_date = 2 * GREATEST * inner_factor k }

-- The number lies between -limit and limit.
abbrev pub LiesWithin : ℕ → ℤ → Type 0
LiesWithin limit x = (neg_ℤ (pos limit) ≤ℤ x) × (x ≤ℤ pos limit)

-- The number of machines is the one that the environment fixes, and from 1 to 32.
abbrev pub HasMachines : Instance → Type 0
HasMachines i = (1 ≤ i.machines) × (i.machines ≤ MOST_MACHINES) × MatchOption (fixed_machines i.class.env) ⊤ (λ m. i.machines ≡ m)

-- Uniform machines have a speed each, from 1 to 1,000,000. Other machines have none.
abbrev pub HasSpeeds : EnvKind → ℕ → List ℕ → Type 0
HasSpeeds Identical m speeds = speeds ≡ []
HasSpeeds Uniform m speeds = (length speeds ≡ m) × All (λ s. (1 ≤ s) × (s ≤ GREATEST_SPEED)) speeds
HasSpeeds Unrelated m speeds = speeds ≡ []
HasSpeeds OpenShop m speeds = speeds ≡ []
HasSpeeds FlowShop m speeds = speeds ≡ []
HasSpeeds JobShop m speeds = speeds ≡ []

-- Some number from 1 to the greatest multiple, 2 ^ 30, is a multiple of all speeds: their least common multiple is at most that.
abbrev pub HasSmallMultiple : List ℕ → Type 0
HasSmallMultiple speeds = (multiple : ℕ) × (1 ≤ multiple) × (multiple ≤ GREATEST_MULTIPLE) × All (λ s. (times : ℕ) × (multiple ≡ times * s)) speeds

-- One need, on machine 0.
abbrev pub IsSingleNeed : List Need → Type 0
IsSingleNeed needs = (length needs ≡ 1) × All (λ n. n.machine ≡ 0) needs

-- One need for each machine, in order.
abbrev pub IsNeedPerMachine : ℕ → List Need → Type 0
IsNeedPerMachine m needs = (length needs ≡ m) × EachIndex needs (λ k. (slice_index_or needs k no_need).machine ≡ k)

-- A route through the machines: at least one operation, and neighbours on different machines.
pub record IsRoute (most m : ℕ) (needs : List Need) : Type 0 where
  pub some : 1 ≤ length needs
  pub few : length needs ≤ most
  pub machines : All (λ n. n.machine < m) needs
  pub moves : AllAdjacentBelow (λ a b. a.machine ≢ b.machine) needs (length needs)

-- The least time: 0 on open and flow shops, but 1 where all times are equal.
abbrev pub least_shop_time : Times → ℕ
least_shop_time General = 0
least_shop_time UnitTimes = 0
least_shop_time Equal = 1

abbrev pub least_time : EnvKind → Times → ℕ
least_time Identical t = 1
least_time Uniform t = 1
least_time Unrelated t = 1
least_time OpenShop t = least_shop_time t
least_time FlowShop t = least_shop_time t
least_time JobShop t = 1

-- The greatest time, which has a limit of its own where all times are equal.
abbrev pub greatest_time : Limits → Times → ℕ
greatest_time l General = l.greatest_time
greatest_time l UnitTimes = l.greatest_time
greatest_time l Equal = GREATEST_EQUAL_TIME

-- The machines of a job's needs are those of its environment.
abbrev pub HasShape : EnvKind → Env → ℕ → List Need → Type 0
HasShape Identical e m needs = IsSingleNeed needs
HasShape Uniform e m needs = IsSingleNeed needs
HasShape Unrelated e m needs = IsNeedPerMachine m needs
HasShape OpenShop e m needs = IsNeedPerMachine m needs
HasShape FlowShop e m needs = IsNeedPerMachine m needs
HasShape JobShop e m needs = IsRoute (most_operations e) m needs

-- Every time is from the least to the greatest one.
abbrev pub HasTimes : ℕ → ℕ → List Need → Type 0
HasTimes least greatest needs = All (λ n. (least ≤ n.time) × (n.time ≤ greatest)) needs

-- The needs of a job are those of its environment, with times in range, and some time is not 0.
pub record HasNeeds (l : Limits) (i : Instance) (needs : List Need) : Type 0 where
  pub shape : HasShape (kind_of i.class.env) i.class.env i.machines needs
  pub times : HasTimes (least_time (kind_of i.class.env) i.class.times) (greatest_time l i.class.times) needs
  pub some : Any (λ n. 1 ≤ n.time) needs

-- With unit times every time is 1, and with equal times it is the one that all operations share.
abbrev pub HasSameTimes : Times → ℕ → List Need → Type 0
HasSameTimes General shared needs = ⊤
HasSameTimes UnitTimes shared needs = All (λ n. n.time ≡ 1) needs
HasSameTimes Equal shared needs = All (λ n. n.time ≡ shared) needs

-- A release date in range, and 0 in a class without release dates.
abbrev pub HasRelease : Limits → Bool → ℕ → Type 0
HasRelease l true r = r ≤ l.greatest_release
HasRelease l false r = r ≡ 0

-- A due date in range, and 0 where the criterion uses none.
abbrev pub HasDue : Limits → Bool → ℤ → Type 0
HasDue l true d = LiesWithin l.greatest_date d
HasDue l false d = d ≡ pos 0

-- A weight from 1 to 1,000,000,000, and 1 where the criterion uses none.
abbrev pub HasWeight : Bool → ℕ → Type 0
HasWeight true w = (1 ≤ w) × (w ≤ GREATEST)
HasWeight false w = w ≡ 1

-- A cost curve in range, with at most 16 steps.
pub record IsCurve (l : Limits) (c : Curve) : Type 0 where
  pub slope : c.slope ≤ GREATEST
  pub base : LiesWithin l.greatest_date c.base
  pub few : length c.steps ≤ MOST_STEPS
  pub steps : All (λ s. (s.above ≤ l.greatest_time) × (s.add ≤ l.greatest_time)) c.steps

-- A cost curve in range, and none where the criterion uses none.
abbrev pub HasCurve : Limits → Bool → Curve → Type 0
HasCurve l true c = IsCurve l c
HasCurve l false c = c ≡ no_curve

-- A job belongs to the class of its instance.
pub record IsJobOf (l : Limits) (i : Instance) (j : Job) : Type 0 where
  pub needs : HasNeeds l i j.needs
  pub times : HasSameTimes i.class.times (common_time i) j.needs
  pub release : HasRelease l i.class.heads j.release
  pub due : HasDue l (uses_due i.class.crit) j.due
  pub weight : HasWeight (uses_weight i.class.crit) j.weight
  pub curve : HasCurve l (uses_curve i.class.crit) j.curve

-- A class without precedence has no arcs.
abbrev pub HasArcs : Order → List Arc → Type 0
HasArcs Free arcs = arcs ≡ []
HasArcs Chains arcs = length arcs ≤ MOST_ARCS
HasArcs Intree arcs = length arcs ≤ MOST_ARCS
HasArcs Outtree arcs = length arcs ≤ MOST_ARCS
HasArcs Prec arcs = length arcs ≤ MOST_ARCS

-- How many arcs leave a job, and how many enter it.
abbrev pub leaving : List Arc → ℕ → ℕ
leaving arcs j = count_by (λ a. a.before == j) arcs

abbrev pub entering : List Arc → ℕ → ℕ
entering arcs j = count_by (λ a. a.after == j) arcs

-- In chains and intrees at most one arc leaves a job; in chains and outtrees at most one arc enters it.
abbrev pub HasDegree : Order → List Arc → ℕ → Type 0
HasDegree Free arcs j = ⊤
HasDegree Chains arcs j = (leaving arcs j ≤ 1) × (entering arcs j ≤ 1)
HasDegree Intree arcs j = leaving arcs j ≤ 1
HasDegree Outtree arcs j = entering arcs j ≤ 1
HasDegree Prec arcs j = ⊤

-- The conditions of a class on an instance, but for cycles.
pub record MeetsConditions (l : Limits) (i : Instance) : Type 0 where
  pub some : 1 ≤ length i.jobs
  pub few : length i.jobs ≤ MOST_JOBS
  pub machines : HasMachines i
  pub speeds : HasSpeeds (kind_of i.class.env) i.machines i.speeds
  pub multiple : HasSmallMultiple i.speeds
  pub jobs : All (IsJobOf l i) i.jobs
  pub arcs : HasArcs i.class.order i.arcs
  pub ends : All (λ a. (a.before < length i.jobs) × (a.after < length i.jobs)) i.arcs
  pub once : AllPairs (λ a b. a ≢ b) i.arcs
  pub degree : (j : ℕ) → j < length i.jobs → HasDegree i.class.order i.arcs j

-- A list of all jobs, each once.
pub record IsSequence (i : Instance) (order : List ℕ) : Type 0 where
  pub whole : length order ≡ length i.jobs
  pub each : (j : ℕ) → j < length i.jobs → Contains order j

-- The arc goes forward in the list: its job before stands at an earlier place than its job after.
abbrev pub GoesForward : List ℕ → Arc → Type 0
GoesForward order a = (p : ℕ) × (q : ℕ) × (p < q) × (slice_get order p ≡ Some a.before) × (slice_get order q ≡ Some a.after)

-- The arcs have no cycle: some list of all jobs, each once, puts every arc forward.
abbrev pub IsAcyclic : Instance → Type 0
IsAcyclic i = (order : List ℕ) × IsSequence i order × All (GoesForward order) i.arcs

-- The instance belongs to its class, within the limits of texts.
pub record InClass (i : Instance) : Type 0 where
  pub conditions : MeetsConditions text_limits i
  pub acyclic : IsAcyclic i

-- Due dates lie close together.
abbrev pub HasNearDues : ℕ → Instance → Type 0
HasNearDues width i = (j k : ℕ) → j < length i.jobs → k < length i.jobs → ((job_at i j).due -ℤ (job_at i k).due) ≤ℤ pos width

-- The instance belongs to its class, within the limits that carried instances keep.
pub record Inner (i : Instance) : Type 0 where
  pub conditions : MeetsConditions (inner_limits (kind_of i.class.env)) i
  pub dues : HasNearDues (2 * GREATEST * inner_factor (kind_of i.class.env)) i
  pub acyclic : IsAcyclic i
