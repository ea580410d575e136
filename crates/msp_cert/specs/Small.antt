-- What the parts of the evidence are judged by. No public contract cites this file.
use Rattle.std.specs.Prelude.{◌≡◌, ℕ, ◌+◌, ◌<◌, ◌≤◌, List, length, All, Any, IsTrue, if◌then◌else◌, ◌==◌}
use Rattle.msp_class.specs.declared.sizes.TheConstants.{MOST_OPERATIONS, GREATEST}
use Rattle.msp_instance.specs.declared.Need.{Need}
use Rattle.msp_instance.specs.declared.Job.{Job}
use Rattle.msp_instance.specs.declared.Arc.{Arc}
use Rattle.msp_instance.specs.declared.Instance.{Instance}
use Rattle.msp_instance.specs.declared.path_bits.Paths.{Paths}
use Rattle.msp_instance.specs.Paths.{leads}

-- A job has at least one need and at most MOST_OPERATIONS, and each takes at most GREATEST.
pub record HasSmallNeeds (j : Job) : Type 0 where
  pub some : 1 ≤ length j.needs
  pub few : length j.needs ≤ MOST_OPERATIONS
  pub short : All (λ n. n.time ≤ GREATEST) j.needs

-- How long an operation takes on a machine: its time there, and no time on another one.
abbrev pub time_there : ℕ → Need → ℕ
time_there machine n = if n.machine == machine then n.time else 0

-- The arc leads from the job to one that is at most one level lower.
abbrev pub Supports : (ℕ → ℕ) → ℕ → Arc → Type 0
Supports level j a = (a.before ≡ j) × (level j ≤ level a.after + 1)

-- The job is of level 0, or such an arc leaves it.
abbrev pub StepsFrom : Instance → (ℕ → ℕ) → ℕ → Type 0
StepsFrom i level j = 0 < level j → Any (Supports level j) i.arcs

-- From each of the jobs a path is found to each of the next.
abbrev pub ShowLeads : Paths → List ℕ → List ℕ → Type 0
ShowLeads p jobs next = All (λ j. All (λ k. IsTrue (leads p j k)) next) jobs
