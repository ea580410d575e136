-- Instances of unit jobs with release dates, squeezed to the moments at which a schedule needs to begin jobs.
use Rattle.std.specs.Prelude.{◌≡◌, ℕ, ◌+◌, ◌*◌, ◌<◌, ◌↔◌, false, true, List, map, count_by, nat_lt, ℤ, pos, ◌+ℤ◌, ◌*ℤ◌, ◌≤ℤ◌, int_le, All, AllPairs, Contains, IsPermutation}
use Rattle.msp_class.specs.declared.class.Class.{Class}
use Rattle.msp_class.specs.declared.class.Env.TheVariants.{P as Parallel}
use Rattle.msp_class.specs.declared.class.Order.TheVariants.{Free}
use Rattle.msp_class.specs.declared.class.Times.TheVariants.{Unit as UnitTimes}
use Rattle.msp_class.specs.declared.class.Crit.TheVariants.{Lmax, SumU}
use Rattle.msp_instance.specs.declared.Job.{Job}
use Rattle.msp_instance.specs.declared.Instance.{Instance}
use Rattle.msp_class.specs.declared.sizes.TheConstants.{GREATEST}
use Rattle.msp_instance.specs.Conditions.{LiesWithin}
use Rattle.msp_pieces.specs.declared.Schedule.{Schedule}
use Rattle.msp_pieces.specs.Feasible.{Feasible}
use Rattle.msp_pieces.specs.Cost.{cost_of}
use Rattle.msp_slots.specs.declared.earliest.Slot.{Slot}
use Rattle.msp_slots.specs.Earliest.{AreSlots}

-- Identical machines, neither preemption nor precedence, release dates, unit times, and the greatest lateness: `P|r,p=1|Lmax`.
abbrev pub lateness_class : Class
lateness_class = record { env = Parallel; cut = false; order = Free; heads = true; times = UnitTimes; crit = Lmax }

-- The same by the number of late jobs: `P|r,p=1|sumU`.
abbrev pub late_count_class : Class
late_count_class = record lateness_class { crit = SumU }

-- The most, in size, of a bound on the greatest lateness.
abbrev pub greatest_bound : ℕ
greatest_bound = 10 * GREATEST

-- The kept moments are those at which the earliest schedule begins a job, in rising order.
pub record AreKept (i : Instance) (kept : List ℕ) : Type 0 where
  pub heads : List ℕ
  pub slots : List Slot
  pub all : IsPermutation (map (λ j. j.release) i.jobs) heads
  pub filled : AreSlots i.machines heads slots
  pub rising : AllPairs ◌<◌ kept
  pub each : (x : ℕ) → Contains kept x ↔ Contains (map (λ s. s.start) slots) x

-- How many kept moments are before the release date, and at how many of them a job can begin that is to end by the due date and the
-- bound together.
abbrev pub squeezed_release : List ℕ → ℕ → ℕ
squeezed_release kept release = count_by (λ x. nat_lt x release) kept

abbrev pub squeezed_due : List ℕ → ℤ → ℕ
squeezed_due kept date = count_by (λ x. int_le (pos (x + 1)) date) kept

-- The job with these numbers as its dates, and the instance of such jobs.
abbrev pub squeezed_job : List ℕ → ℤ → Job → Job
squeezed_job kept bound j = record j { release = squeezed_release kept j.release; due = pos (squeezed_due kept (j.due +ℤ bound)) }

abbrev pub squeezed_by : List ℕ → ℤ → Instance → Instance
squeezed_by kept bound i = record i { class = late_count_class; jobs = map (squeezed_job kept bound) i.jobs }

-- From its release date on the job has a unit of time up to its due date and the bound together.
abbrev pub HasTime : ℤ → Job → Type 0
HasTime bound j = pos (j.release + 1) ≤ℤ (j.due +ℤ bound)

-- The instance is the other one squeezed, by a bound on the greatest lateness for which each job has time.
pub record IsSqueezed (i : Instance) (bound : ℤ) (lower : Instance) : Type 0 where
  pub possible : All (HasTime bound) i.jobs
  pub kept : List ℕ
  pub moments : AreKept i kept
  pub value : lower ≡ squeezed_by kept bound i

-- The condition holds for each instance squeezed by a bound.
abbrev pub HoldsSqueezed : (Instance → Type 0) → Instance → Type 0
HoldsSqueezed P i = (bound : ℤ) (lower : Instance) → LiesWithin greatest_bound bound → IsSqueezed i bound lower → P lower

-- Some feasible schedule has a greatest lateness of at most the bound; and some feasible schedule costs nothing.
abbrev pub CanMeet : Instance → ℤ → Type 0
CanMeet i bound = (s : Schedule) × Feasible i s × (cost_of i s ≤ℤ (bound *ℤ s.unit))

abbrev pub CanBeFree : Instance → Type 0
CanBeFree i = (s : Schedule) × Feasible i s × (cost_of i s ≡ pos 0)
