-- Which condition of its class an instance breaks first.
use Rattle.std.specs.Prelude.{⊤, ◌≡◌, ◌≢◌, ℕ, ◌<◌, ◌≤◌, ◌⊎◌, length, slice_index_or, All, take}
use Rattle.msp_class.specs.Env.{kind_of}
use Rattle.msp_class.specs.Crit.{uses_due, uses_weight, uses_curve}
use Rattle.msp_class.specs.declared.sizes.TheConstants.{MOST_JOBS}
use Rattle.msp_instance.specs.declared.Arc.{Arc}
use Rattle.msp_instance.specs.declared.Instance.{Instance}
use Rattle.msp_instance.specs.declared.membership.ClassFault.{ClassFault}
use Rattle.msp_instance.specs.declared.membership.ClassFault.TheVariants.{Jobs, Machines, Speeds, Multiple, Need as NeedFault, Unit as UnitFault, Head, Due, Weight}
use Rattle.msp_instance.specs.declared.membership.ClassFault.TheVariants.{Curve as CurveFault, Arcs, Arc as ArcFault, Degree}
use Rattle.msp_instance.specs.Instance.{job_at, common_time}
use Rattle.msp_instance.specs.Conditions.{text_limits, HasMachines, HasSpeeds, HasSmallMultiple, HasNeeds, HasSameTimes, HasRelease, HasDue, HasWeight, HasCurve, HasArcs, HasDegree, IsJobOf}

-- The arc of a number, from 0.
abbrev pub arc_at : Instance → ℕ → Arc
arc_at i at = slice_index_or i.arcs at (record { before = 0; after = 0 })

-- There are from 1 to 400 jobs.
abbrev pub HasJobs : Instance → Type 0
HasJobs i = (1 ≤ length i.jobs) × (length i.jobs ≤ MOST_JOBS)

-- Both ends of the arc are jobs, and no earlier arc is the same.
abbrev pub HasArc : Instance → ℕ → Type 0
HasArc i at = ((arc_at i at).before < length i.jobs) × ((arc_at i at).after < length i.jobs) × All (λ a. a ≢ arc_at i at) (take at i.arcs)

-- The condition that a fault says is broken.
abbrev pub Condition : Instance → ClassFault → Type 0
Condition i Jobs = HasJobs i
Condition i Machines = HasMachines i
Condition i Speeds = HasSpeeds (kind_of i.class.env) i.machines i.speeds
Condition i Multiple = HasSmallMultiple i.speeds
Condition i (NeedFault j) = HasNeeds text_limits i (job_at i j).needs
Condition i (UnitFault j) = HasSameTimes i.class.times (common_time i) (job_at i j).needs
Condition i (Head j) = HasRelease text_limits i.class.heads (job_at i j).release
Condition i (Due j) = HasDue text_limits (uses_due i.class.crit) (job_at i j).due
Condition i (Weight j) = HasWeight (uses_weight i.class.crit) (job_at i j).weight
Condition i (CurveFault j) = HasCurve text_limits (uses_curve i.class.crit) (job_at i j).curve
Condition i Arcs = HasArcs i.class.order i.arcs
Condition i (ArcFault at) = HasArc i at
Condition i (Degree j) = HasDegree i.class.order i.arcs j

-- The job or the arc that the fault names, if it names one, is one of the instance.
abbrev pub IsOf : Instance → ClassFault → Type 0
IsOf i Jobs = ⊤
IsOf i Machines = ⊤
IsOf i Speeds = ⊤
IsOf i Multiple = ⊤
IsOf i (NeedFault j) = j < length i.jobs
IsOf i (UnitFault j) = j < length i.jobs
IsOf i (Head j) = j < length i.jobs
IsOf i (Due j) = j < length i.jobs
IsOf i (Weight j) = j < length i.jobs
IsOf i (CurveFault j) = j < length i.jobs
IsOf i Arcs = ⊤
IsOf i (ArcFault at) = at < length i.arcs
IsOf i (Degree j) = j < length i.jobs

-- When a condition is looked at: the part of the instance that it is about, the number of its job or arc, and its number among the conditions of one job.
pub record Turn : Type 0 where
  pub part : ℕ
  pub number : ℕ
  pub step : ℕ

abbrev pub turn_of : ClassFault → Turn
turn_of Jobs = record { part = 0; number = 0; step = 0 }
turn_of Machines = record { part = 1; number = 0; step = 0 }
turn_of Speeds = record { part = 2; number = 0; step = 0 }
turn_of Multiple = record { part = 3; number = 0; step = 0 }
turn_of (NeedFault j) = record { part = 4; number = j; step = 0 }
turn_of (UnitFault j) = record { part = 4; number = j; step = 1 }
turn_of (Head j) = record { part = 4; number = j; step = 2 }
turn_of (Due j) = record { part = 4; number = j; step = 3 }
turn_of (Weight j) = record { part = 4; number = j; step = 4 }
turn_of (CurveFault j) = record { part = 4; number = j; step = 5 }
turn_of Arcs = record { part = 5; number = 0; step = 0 }
turn_of (ArcFault at) = record { part = 6; number = at; step = 0 }
turn_of (Degree j) = record { part = 7; number = j; step = 0 }

-- Parts come in order, within a part the numbers, and within a job the steps.
abbrev pub IsSooner : Turn → Turn → Type 0
IsSooner s t = (s.part < t.part) ⊎ ((s.part ≡ t.part) × ((s.number < t.number) ⊎ ((s.number ≡ t.number) × (s.step < t.step))))

-- The fault is the first one: its condition is broken, and every condition whose turn is sooner holds.
pub record IsFirstFault (i : Instance) (fault : ClassFault) : Type 0 where
  pub within : IsOf i fault
  pub broken : ¬ Condition i fault
  pub first : (sooner : ClassFault) → IsOf i sooner → IsSooner (turn_of sooner) (turn_of fault) → Condition i sooner

-- What the parts of the test pass on: the conditions before those of jobs.
pub record HasFrame (i : Instance) : Type 0 where
  pub jobs : HasJobs i
  pub machines : HasMachines i
  pub speeds : HasSpeeds (kind_of i.class.env) i.machines i.speeds
  pub multiple : HasSmallMultiple i.speeds

-- The jobs before a job belong to the class.
abbrev pub HasJobsBefore : Instance → ℕ → Type 0
HasJobsBefore i j = (k : ℕ) → k < j → IsJobOf text_limits i (job_at i k)

-- The conditions before those of arcs: the frame and all jobs.
pub record HasAllJobs (i : Instance) : Type 0 where
  pub frame : HasFrame i
  pub jobs : All (IsJobOf text_limits i) i.jobs
