-- What is kept while the value of a block is worked out. No public contract cites this file.
use Rattle.std.specs.Prelude.{◌≡◌, ℕ, ◌+◌, ◌≤◌, ◌⊎◌, false, List, Option, Some, None, ℤ, ◌≤ℤ◌, int_lt, if◌then◌else◌, All, Any}
use Rattle.msp_instance.specs.declared.Arc.{Arc}
use Rattle.msp_instance.specs.declared.Instance.{Instance}
use Rattle.msp_instance.specs.declared.path_bits.Paths.{Paths}
use Rattle.msp_instance.specs.Instance.{job_at, need_at}
use Rattle.msp_instance.specs.Paths.{leads}

-- The arc leads to the job from one whose head and time together reach the job's head.
abbrev pub Backs : Instance → (ℕ → ℕ) → ℕ → Arc → Type 0
Backs i heads j a = (a.after ≡ j) × (heads j ≤ heads a.before + (need_at i a.before 0).time)

-- The head is at most the release date, or an arc backs it.
abbrev pub IsBacked : Instance → (ℕ → ℕ) → ℕ → Type 0
IsBacked i heads j = (heads j ≤ (job_at i j).release) ⊎ Any (Backs i heads j) i.arcs

-- No path leads from the job to one of the jobs.
abbrev pub IsLast : Paths → List ℕ → ℕ → Type 0
IsLast p jobs j = All (λ k. leads p j k ≡ false) jobs

-- The cost of a job that counts, and nothing for another one.
abbrev pub IsOwnCost : Type 0 → ℤ → Option ℤ → Type 0
IsOwnCost counts cost None = ¬ counts
IsOwnCost counts cost (Some x) = counts × (x ≡ cost)

-- The least cost of the jobs that count, and nothing where none does.
abbrev pub IsLeast : (ℕ → Type 0) → (ℕ → ℤ) → List ℕ → Option ℤ → Type 0
IsLeast counts cost jobs None = All (λ j. ¬ counts j) jobs
IsLeast counts cost jobs (Some x) = Any (λ j. counts j × (x ≡ cost j)) jobs × All (λ j. counts j → x ≤ℤ cost j) jobs

abbrev pub lesser : Option ℤ → Option ℤ → Option ℤ
lesser None b = b
lesser (Some x) None = Some x
lesser (Some x) (Some y) = Some (if int_lt y x then y else x)
