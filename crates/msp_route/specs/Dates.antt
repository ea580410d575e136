-- Jobs by due date.
use Rattle.std.specs.Prelude.{◌≡◌, ℕ, ◌^◌, ◌<◌, ◌⊎◌, List, length, slice_index_or, pos, ◌+ℤ◌, ◌<ℤ◌}
use Rattle.msp_instance.specs.declared.Instance.{Instance}
use Rattle.msp_instance.specs.Instance.{job_at}

-- Job a is due before job b, or at the same date and has the lesser number.
abbrev pub IsDueBefore : Instance → ℕ → ℕ → Type 0
IsDueBefore i a b = ((job_at i a).due <ℤ (job_at i b).due) ⊎ (((job_at i a).due ≡ (job_at i b).due) × (a < b))

-- A number for each job that rises with its due date.
abbrev pub AreDateKeys : Instance → List ℕ → Type 0
AreDateKeys i keys = (k : ℕ) → k < length i.jobs → pos (slice_index_or keys k 0) ≡ (job_at i k).due +ℤ pos (2 ^ 63)
