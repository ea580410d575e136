-- What is kept while levels are worked out. No public contract cites this file.
use Rattle.std.specs.Prelude.{◌≡◌, ℕ, ◌+◌, ◌<◌, ◌⊎◌, List, length, All, Any}
use Rattle.msp_instance.specs.declared.Arc.{Arc}
use Rattle.msp_instance.specs.declared.Instance.{Instance}
use Rattle.msp_cert.specs.Certificates.{of_job}

-- A height for each job, below the number of jobs, that falls along each arc.
pub record AreHeights (i : Instance) (heights : List ℕ) : Type 0 where
  pub each : length heights ≡ length i.jobs
  pub small : All (λ h. h < length i.jobs) heights
  pub falls : All (λ a. of_job heights a.after < of_job heights a.before) i.arcs

-- The level of each job is one more than the greatest of those to which its arcs lead, and 0 where it has none.
pub record AreBalanced (arcs : List Arc) (level : ℕ → ℕ) : Type 0 where
  pub over : All (λ a. level a.after < level a.before) arcs
  pub reached : (j : ℕ) → (level j ≡ 0) ⊎ Any (λ a. (a.before ≡ j) × (level j ≡ level a.after + 1)) arcs
