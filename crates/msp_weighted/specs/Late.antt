-- The class that the table solves, how long its jobs take together, and the order in which they run.
use Rattle.std.specs.Prelude.{◌≡◌, ℕ, ◌+◌, ◌<◌, false, List, [], ◌∷◌, ◌++◌, length, slice_index_or, pos, ◌≤ℤ◌, ◌<ℤ◌, AllPairs, IsPermutation, sum_by, ⊤}
use Rattle.std.specs.List.{range_with_len}
use Rattle.msp_class.specs.declared.class.Class.{Class}
use Rattle.msp_class.specs.declared.class.Env.TheVariants.{One}
use Rattle.msp_class.specs.declared.class.Order.TheVariants.{Free}
use Rattle.msp_class.specs.declared.class.Times.TheVariants.{General}
use Rattle.msp_class.specs.declared.class.Crit.TheVariants.{SumWU}
use Rattle.msp_instance.specs.declared.Job.{Job}
use Rattle.msp_instance.specs.declared.Instance.{Instance}
use Rattle.msp_instance.specs.Instance.{no_need, job_at}
use Rattle.msp_pieces.specs.BackToBack.{time_at}
use Rattle.msp_route.specs.Dates.{IsDueBefore}

-- One machine, neither preemption nor precedence nor release dates, any times, and the weight of late jobs: `1||sumwU`.
abbrev pub late_class : Class
late_class = record { env = One; cut = false; order = Free; heads = false; times = General; crit = SumWU }

-- The time of a job's one operation, and the time of all jobs together.
abbrev pub time_of : Job → ℕ
time_of j = (slice_index_or j.needs 0 no_need).time

abbrev pub total_time : Instance → ℕ
total_time i = sum_by time_of i.jobs

-- Each job of a row from the moment t on ends by its due date.
abbrev pub EndInTime : Instance → ℕ → List ℕ → Type 0
EndInTime i t [] = ⊤
EndInTime i t (j ∷ js) = (pos (t + time_at i j) ≤ℤ (job_at i j).due) × EndInTime i (t + time_at i j) js

-- Each job of a row from the moment t on ends after its due date.
abbrev pub EndLate : Instance → ℕ → List ℕ → Type 0
EndLate i t [] = ⊤
EndLate i t (j ∷ js) = ((job_at i j).due <ℤ pos (t + time_at i j)) × EndLate i (t + time_at i j) js

-- All jobs, each once: first those that end by their due dates, by due date, and then the others, by number, which end after theirs.
pub record IsLateOrder (i : Instance) (order : List ℕ) : Type 0 where
  pub on_time : List ℕ
  pub late : List ℕ
  pub all : IsPermutation (range_with_len 0 (length i.jobs)) order
  pub whole : order ≡ on_time ++ late
  pub by_date : AllPairs (IsDueBefore i) on_time
  pub in_time : EndInTime i 0 on_time
  pub too_late : EndLate i (sum_by (time_at i) on_time) late
  pub by_number : AllPairs (λ a b. a < b) late
