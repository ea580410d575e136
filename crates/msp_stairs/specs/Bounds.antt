-- Bounds on the greatest lateness, times the number of machines. No public contract cites this file.
use Rattle.std.specs.Prelude.{◌≡◌, ℕ, ◌+◌, ◌*◌, ◌^◌, List, length, ℤ, pos, nat_abs, ◌+ℤ◌, ◌*ℤ◌, ◌≤ℤ◌, Option, Some, None, MatchOption, AllPairs, IsPermutation, slice_index_or}
use Rattle.std.specs.List.{range_with_len}
use Rattle.std.specs.Int.{int_max, int_min}
use Rattle.msp_class.specs.declared.sizes.TheConstants.{MOST_MACHINES, GREATEST}
use Rattle.msp_instance.specs.declared.Instance.{Instance}
use Rattle.msp_instance.specs.Instance.{job_at}
use Rattle.msp_instance.specs.Conditions.{Inner, LiesWithin}
use Rattle.msp_pieces.specs.declared.Schedule.{Schedule}
use Rattle.msp_pieces.specs.Feasible.{Feasible}
use Rattle.msp_pieces.specs.Cost.{cost_of}
use Rattle.msp_pieces.specs.BackToBack.{time_at}
use Rattle.msp_route.specs.Halving.{IsLeastBound}
use Rattle.msp_stairs.specs.declared.climb.Limits.{Limits}
use Rattle.msp_stairs.specs.Stairs.{stairs_class, makespan}

-- No bound is greater in size: all jobs together take less, and no due date is further away. At least MOST_MACHINES * (MOST_JOBS + 2) * GREATEST.
abbrev pub greatest_bound : ℕ
greatest_bound = 2 * 10 ^ 13

-- The greatest size of a due date, over the number of machines, and the latest deadline.
abbrev pub greatest_date : ℕ
greatest_date = MOST_MACHINES * (2 * GREATEST)

abbrev pub latest_deadline : ℕ
latest_deadline = greatest_date + greatest_bound

-- Some feasible schedule has at most the lateness.
abbrev pub CanMeet : Instance → ℤ → Type 0
CanMeet i bound = (s : Schedule) × Feasible i s × ((pos i.machines *ℤ cost_of i s) ≤ℤ (bound *ℤ s.unit))

-- And ends by the moment, too.
abbrev pub CanEnd : Instance → ℤ → ℤ → Type 0
CanEnd i late end = (s : Schedule) × Feasible i s × ((pos i.machines *ℤ cost_of i s) ≤ℤ (late *ℤ s.unit)) × ((pos i.machines *ℤ makespan s) ≤ℤ (end *ℤ s.unit))

-- The lateness alone, and the moment by which all jobs end besides.
abbrev pub no_later : ℤ → Limits
no_later late = record { late = late; end = None }

abbrev pub ended_by : ℤ → ℤ → Limits
ended_by late end = record { late = late; end = Some end }

-- The limits are the least that can be met: the lateness, and for this lateness the end.
pub record AreLeast (i : Instance) (limits : Limits) : Type 0 where
  pub late : IsLeastBound (CanMeet i) limits.late
  pub end : MatchOption limits.end ⊥ (IsLeastBound (CanEnd i limits.late))
  pub small : LiesWithin greatest_bound limits.late

-- The time of a job, and the moment by which it has to end for the limits, over the number of machines.
abbrev pub work_at : Instance → ℕ → ℕ
work_at i j = i.machines * time_at i j

abbrev pub capped : Option ℤ → ℤ → ℤ
capped None moment = moment
capped (Some end) moment = int_min moment end

abbrev pub last_moment : Instance → Limits → ℕ → ℤ
last_moment i limits j = capped limits.end ((pos i.machines *ℤ (job_at i j).due) +ℤ limits.late)

abbrev pub deadline : Instance → Limits → ℕ → ℕ
deadline i limits j = nat_abs (int_max (pos 0) (last_moment i limits j))

abbrev pub at : List ℕ → ℕ → ℕ
at xs k = slice_index_or xs k 0

-- All jobs by due date.
pub record AreByDate (i : Instance) (order : List ℕ) : Type 0 where
  pub all : IsPermutation (range_with_len 0 (length i.jobs)) order
  pub rising : AllPairs (λ a b. (job_at i a).due ≤ℤ (job_at i b).due) order

-- The instance is of the class, and these are its jobs by due date.
pub record IsReady (i : Instance) (order : List ℕ) : Type 0 where
  pub inner : Inner i
  pub class : i.class ≡ stairs_class
  pub by_date : AreByDate i order

-- And the lateness is not large.
pub record IsReadyFor (i : Instance) (order : List ℕ) (late : ℤ) : Type 0 where
  pub ready : IsReady i order
  pub small : LiesWithin greatest_bound late
