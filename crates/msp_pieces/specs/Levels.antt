-- The levels of jobs, and the moments before which jobs of a level cannot all be done.
use Rattle.std.specs.Prelude.{◌≡◌, ℕ, zero, suc, ◌+◌, ◌-◌, ◌/◌, ◌<◌, ◌≤◌, nat_le, false, List, length, pos, ◌*ℤ◌, ◌≤ℤ◌, count_by, ⊤}
use Rattle.std.specs.List.{range_with_len}
use Rattle.msp_class.specs.declared.environments.EnvKind.TheVariants.{Identical}
use Rattle.msp_class.specs.Env.{kind_of}
use Rattle.msp_instance.specs.declared.Arc.{Arc}
use Rattle.msp_instance.specs.declared.Instance.{Instance}
use Rattle.msp_instance.specs.Paths.{HasStep}
use Rattle.msp_pieces.specs.declared.Schedule.{Schedule}
use Rattle.msp_pieces.specs.Feasible.{Feasible}
use Rattle.msp_pieces.specs.Cost.{end_of}
use Rattle.msp_pieces.specs.Laws.{TakeOneUnit}

-- A path of so many arcs leaves the job.
abbrev pub LeadsOut : List Arc → ℕ → ℕ → Type 0
LeadsOut arcs zero j = ⊤
LeadsOut arcs (suc n) j = (k : ℕ) × HasStep arcs j k × LeadsOut arcs n k

-- The level of a job is the number of arcs on the longest path that leaves it.
pub record IsLevel (arcs : List Arc) (j level : ℕ) : Type 0 where
  pub path : LeadsOut arcs level j
  pub longest : (n : ℕ) → LeadsOut arcs n j → n ≤ level

-- The numbers are the levels of the jobs.
abbrev pub AreLevels : Instance → (ℕ → ℕ) → Type 0
AreLevels i level = (j : ℕ) → j < length i.jobs → IsLevel i.arcs j (level j)

-- How many jobs have at least the level.
abbrev pub jobs_from : Instance → (ℕ → ℕ) → ℕ → ℕ
jobs_from i level t = count_by (λ j. nat_le t (level j)) (range_with_len 0 (length i.jobs))

-- The level, and the number of jobs of at least that level over the number of machines, rounded up.
abbrev pub level_bound : Instance → (ℕ → ℕ) → ℕ → ℕ
level_bound i level t = t + (jobs_from i level t + (i.machines - 1)) / i.machines

-- From each job above level 0 an arc leads to a job that is at most one level lower.
abbrev pub StepsDown : Instance → (ℕ → ℕ) → Type 0
StepsDown i level = (j : ℕ) → j < length i.jobs → 0 < level j → (k : ℕ) × (k < length i.jobs) × HasStep i.arcs j k × (level j ≤ level k + 1)

-- The law of levels: on identical machines, where jobs take one unit of time and may not be cut, some job ends no earlier than the bound
-- of a level, where a job has at least that level, and levels step down along arcs.
abbrev pub LawOfLevels : Type 0
LawOfLevels = (i : Instance) (s : Schedule) (level : ℕ → ℕ) (t j : ℕ)
    → kind_of i.class.env ≡ Identical → i.class.cut ≡ false → TakeOneUnit i → StepsDown i level → Feasible i s
    → j < length i.jobs → t ≤ level j
    → (k : ℕ) × (k < length i.jobs) × ((s.unit *ℤ pos (level_bound i level t)) ≤ℤ end_of s k)
