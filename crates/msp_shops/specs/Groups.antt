-- Instances with two machines in series, and their jobs by the machine on which they begin. No public contract cites this file.
use Rattle.std.specs.Prelude.{◌≡◌, ◌≢◌, ℕ, ◌-◌, ◌<◌, ◌≤◌, ◌⊎◌, ◌==◌, Bool, List, [], length, map, filter, All, AllPairs, Contains}
use Rattle.std.specs.List.{range_with_len}
use Rattle.msp_class.specs.declared.class.Crit.TheVariants.{Cmax}
use Rattle.msp_class.specs.declared.environments.EnvKind.TheVariants.{FlowShop, JobShop}
use Rattle.msp_class.specs.Env.{kind_of}
use Rattle.msp_instance.specs.declared.Instance.{Instance}
use Rattle.msp_class.specs.declared.sizes.TheConstants.{MOST_JOBS, GREATEST}
use Rattle.msp_instance.specs.Instance.{job_at, need_at}
use Rattle.msp_shops.specs.declared.pass.JobTimes.{JobTimes}
use Rattle.msp_shops.specs.Order.{GoesBefore}
use Rattle.msp_shops.specs.Times.{times_at}

-- A job's times on the machine of its first operation and on that of its second one; 0 where it has only one.
abbrev pub route_times : Instance → ℕ → JobTimes
route_times i j = times_at i 0 1 j

abbrev pub begins_on : Instance → ℕ → ℕ → Bool
begins_on i machine j = (need_at i j 0).machine == machine

-- The times of the jobs that begin on the machine, in order of number.
abbrev pub times_from : Instance → ℕ → List JobTimes
times_from i machine = map (route_times i) (filter (begins_on i machine) (range_with_len 0 (length i.jobs)))

-- A job has one operation, or two on the two machines in turn.
pub record HasTwoMachines (i : Instance) (j : ℕ) : Type 0 where
  pub some : 1 ≤ length (job_at i j).needs
  pub few : length (job_at i j).needs ≤ 2
  pub first : (need_at i j 0).machine < 2
  pub second : length (job_at i j).needs ≡ 2 → (need_at i j 1).machine ≡ 1 - (need_at i j 0).machine
  pub short_first : (need_at i j 0).time ≤ GREATEST
  pub short_second : (need_at i j 1).time ≤ GREATEST

-- Two machines, on which each job has at most one operation, and the route of each job is given; no job has to wait for another or for a
-- release date, and the last end counts. Preemption is allowed or not.
pub record IsTwoMachineShop (i : Instance) : Type 0 where
  pub kind : (kind_of i.class.env ≡ FlowShop) ⊎ (kind_of i.class.env ≡ JobShop)
  pub crit : i.class.crit ≡ Cmax
  pub arcs : i.arcs ≡ []
  pub some : 1 ≤ length i.jobs
  pub few : length i.jobs ≤ MOST_JOBS
  pub release : All (λ j. j.release ≡ 0) i.jobs
  pub needs : (j : ℕ) → j < length i.jobs → HasTwoMachines i j

-- All jobs that begin on the machine.
pub record IsGroup (i : Instance) (machine : ℕ) (jobs : List JobTimes) : Type 0 where
  pub members : All (λ t. (t ≡ route_times i t.job) × (t.job < length i.jobs) × ((need_at i t.job 0).machine ≡ machine)) jobs
  pub all : (j : ℕ) → j < length i.jobs → (need_at i j 0).machine ≡ machine → Contains jobs (route_times i j)
  pub once : AllPairs (λ a b. a.job ≢ b.job) jobs
  pub few : length jobs ≤ MOST_JOBS

-- All jobs that begin on the machine, in Johnson's order, ties by number.
pub record IsJohnsonGroup (i : Instance) (machine : ℕ) (jobs : List JobTimes) : Type 0 where
  pub group : IsGroup i machine jobs
  pub order : AllPairs (GoesBefore (λ t. t.first) (λ t. t.second)) jobs
  pub ties : AllPairs (λ s t. GoesBefore (λ u. u.first) (λ u. u.second) t s → s.job < t.job) jobs
