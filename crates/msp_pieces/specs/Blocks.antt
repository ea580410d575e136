-- Blocks on one machine: some jobs that cannot begin before a moment, and what the last one of them costs at least.
use Rattle.std.specs.Prelude.{◌≡◌, ◌≢◌, ℕ, ◌+◌, ◌<◌, ◌≤◌, ◌⊎◌, true, List, length, slice_index_or, ℤ, pos, ◌*ℤ◌, ◌≤ℤ◌, All, AllPairs, Any, Contains, sum_by}
use Rattle.msp_class.specs.declared.class.Env.TheVariants.{One}
use Rattle.msp_class.specs.Crit.{is_greatest}
use Rattle.msp_instance.specs.declared.Arc.{Arc}
use Rattle.msp_instance.specs.declared.Instance.{Instance}
use Rattle.msp_instance.specs.Instance.{job_at, need_at}
use Rattle.msp_instance.specs.Conditions.{Limits, MeetsConditions}
use Rattle.msp_instance.specs.Paths.{HasPath}
use Rattle.msp_pieces.specs.declared.Schedule.{Schedule}
use Rattle.msp_pieces.specs.Feasible.{Feasible}
use Rattle.msp_pieces.specs.Cost.{job_cost, cost_of}

-- How long the jobs take one after another.
abbrev pub total_time : Instance → List ℕ → ℕ
total_time i jobs = sum_by (λ j. (need_at i j 0).time) jobs

-- What a job costs that ends at the moment.
abbrev pub cost_at : Instance → ℕ → ℕ → ℤ
cost_at i j moment = job_cost i.class.crit (pos 1) (job_at i j) (pos moment)

-- No arc leads from the job to one of the jobs.
abbrev pub HasNoSuccessor : Instance → List ℕ → ℕ → Type 0
HasNoSuccessor i jobs j = All (λ a. a.before ≡ j → ¬ Contains jobs a.after) i.arcs

-- No path leads from the job to one of the jobs.
abbrev pub LeadsToNone : Instance → List ℕ → ℕ → Type 0
LeadsToNone i jobs j = All (λ k. ¬ HasPath i.arcs j k) jobs

-- Heads: moments before which no job can begin. Each is at most the job's release date, or at most the head and the time of another job
-- from which an arc leads to it.
abbrev pub IsSound : Instance → (ℕ → ℕ) → Type 0
IsSound i heads = (j : ℕ) → j < length i.jobs → (heads j ≤ (job_at i j).release) ⊎ ((a : Arc) × Contains i.arcs a × (a.after ≡ j) × (heads j ≤ heads a.before + (need_at i a.before 0).time))

-- A block: a head for each job, and some jobs, each once.
pub record IsBlock (i : Instance) (heads jobs : List ℕ) : Type 0 where
  pub each : length heads ≡ length i.jobs
  pub sound : IsSound i (λ j. slice_index_or heads j 0)
  pub some : 0 < length jobs
  pub inside : All (λ j. j < length i.jobs) jobs
  pub apart : AllPairs (λ j k. j ≢ k) jobs

-- The value of a block: the least that one of its jobs without a path to another of them costs, where it ends when all of them can be done
-- at the earliest, after the least of their heads and all their times.
pub record IsBlockValue (i : Instance) (heads jobs : List ℕ) (value : ℤ) : Type 0 where
  pub begin : ℕ
  pub first : Any (λ j. slice_index_or heads j 0 ≡ begin) jobs
  pub after : All (λ j. begin ≤ slice_index_or heads j 0) jobs
  pub reached : Any (λ j. LeadsToNone i jobs j × (value ≡ cost_at i j (begin + total_time i jobs))) jobs
  pub least : All (λ j. LeadsToNone i jobs j → value ≤ℤ cost_at i j (begin + total_time i jobs)) jobs

-- What certifies that the job's cost at the moment is owed: jobs, each once, none of which can begin before a moment, are all done at the
-- earliest then, and each of them without an arc to another one costs at least as much then.
pub record IsCertified (i : Instance) (heads : ℕ → ℕ) (j moment : ℕ) : Type 0 where
  pub jobs : List ℕ
  pub from : ℕ
  pub some : 0 < length jobs
  pub inside : All (λ k. k < length i.jobs) jobs
  pub apart : AllPairs (λ k l. k ≢ l) jobs
  pub begin : All (λ k. from ≤ heads k) jobs
  pub whole : moment ≡ from + total_time i jobs
  pub least : All (λ k. HasNoSuccessor i jobs k → cost_at i j moment ≤ℤ cost_at i k moment) jobs

-- The law of blocks: on one machine, where the cost is the greatest cost of a job, no feasible schedule costs less than the value of a block.
abbrev pub LawOfBlocks : Type 0
LawOfBlocks = (l : Limits) (i : Instance) (s : Schedule) (heads jobs : List ℕ) (value : ℤ) → i.class.env ≡ One → is_greatest i.class.crit ≡ true → MeetsConditions l i → Feasible i s
    → IsBlock i heads jobs → IsBlockValue i heads jobs value → (s.unit *ℤ value) ≤ℤ cost_of i s
