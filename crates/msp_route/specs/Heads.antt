-- Heads: moments before which jobs on one machine cannot begin, release dates raised along the arcs.
use Rattle.std.specs.Prelude.{◌≡◌, ℕ, ◌+◌, ◌*◌, ◌≤◌, ◌<◌, ◌⊎◌, List, length, All, Contains, slice_index_or}
use Rattle.msp_instance.specs.declared.Arc.{Arc}
use Rattle.msp_instance.specs.declared.Instance.{Instance}
use Rattle.msp_class.specs.declared.sizes.TheConstants.{MOST_JOBS, GREATEST}
use Rattle.msp_instance.specs.Instance.{job_at, need_at}
use Rattle.msp_pieces.specs.Blocks.{IsSound}

-- The head of a job, by the heads of the jobs from which one of the arcs leads to it: the greatest of its release date and of what these
-- take from their heads on.
pub record IsRaised (i : Instance) (arcs : List Arc) (heads : ℕ → ℕ) (job head : ℕ) : Type 0 where
  pub release : (job_at i job).release ≤ head
  pub above : All (λ a. a.after ≡ job → heads a.before + (need_at i a.before 0).time ≤ head) arcs
  pub reached : (head ≡ (job_at i job).release) ⊎ ((a : Arc) × Contains arcs a × (a.after ≡ job) × (head ≡ heads a.before + (need_at i a.before 0).time))

-- The head of a job, of those of all jobs.
abbrev pub head_in : List ℕ → ℕ → ℕ
head_in heads j = slice_index_or heads j 0

-- No head is later than this.
abbrev pub greatest_head : ℕ
greatest_head = GREATEST * (2 + MOST_JOBS)

-- A head for each job: not before its release date, nor before a job from which an arc leads to it has had its time from its own head on,
-- and no later than one of these.
pub record AreHeads (i : Instance) (heads : List ℕ) : Type 0 where
  pub each : length heads ≡ length i.jobs
  pub release : (j : ℕ) → j < length i.jobs → (job_at i j).release ≤ head_in heads j
  pub arcs : All (λ a. head_in heads a.before + (need_at i a.before 0).time ≤ head_in heads a.after) i.arcs
  pub sound : IsSound i (head_in heads)
  pub small : All (λ h. h ≤ greatest_head) heads
