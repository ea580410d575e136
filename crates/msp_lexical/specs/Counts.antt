-- Arcs counted by the jobs that they join, and linked by their jobs after. No public contract cites this file.
use Rattle.std.specs.Prelude.{◌≡◌, ℕ, zero, suc, ◌<◌, ◌==◌, ◌&&◌, cond, List, length, slice_index, slice_index_or, count_by}
use Rattle.std.specs.List.{list_any}
use Rattle.msp_instance.specs.declared.Arc.{Arc}
use Rattle.msp_class.specs.declared.sizes.TheConstants.{MOST_JOBS}

-- How many arcs lead from the one job to the other, and from the job to jobs of the list.
abbrev pub arcs_between : List Arc → ℕ → ℕ → ℕ
arcs_between arcs j k = count_by (λ a. a.after == k && a.before == j) arcs

abbrev pub arcs_into : List Arc → List ℕ → ℕ → ℕ
arcs_into arcs jobs j = count_by (λ a. list_any (λ k. k == a.after) jobs && a.before == j) arcs

-- The number of the last of the first n arcs that enters the job. Arcs are numbered from 1, and 0 is none.
abbrev pub last_into : List Arc → ℕ → ℕ → ℕ
last_into arcs j zero = 0
last_into arcs j (suc n) = cond ((slice_index_or arcs n (record { before = 0; after = 0 })).after == j) (suc n) (last_into arcs j n)

-- The first n arcs, linked: for each job the number of the last one that enters it, and for each of them the number of the last one before
-- it that enters the same job.
pub record AreLinks (arcs : List Arc) (n : ℕ) (last earlier : List ℕ) : Type 0 where
  pub whole : length last ≡ MOST_JOBS
  pub of_jobs : (j : ℕ) → j < MOST_JOBS → slice_index last j ≡ last_into arcs j n
  pub len : length earlier ≡ n
  pub of_arcs : (k : ℕ) → k < n → slice_index earlier k ≡ last_into arcs (slice_index_or arcs k (record { before = 0; after = 0 })).after k
