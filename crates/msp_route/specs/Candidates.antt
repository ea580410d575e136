-- The search for the job that ends last. No public contract cites this file.
use Rattle.std.specs.Prelude.{◌≡◌, ℕ, ◌<◌, ◌≤◌, ◌⊎◌, Bool, true, false, List, take, slice_index_or, Option, Some, None, ℤ, ◌<ℤ◌, All}
use Rattle.msp_route.specs.declared.last_job.Candidate.{Candidate}

-- The candidate costs less than what has the cost and the number, or as much and has no greater number.
abbrev pub Precedes : Candidate → ℤ → ℕ → Type 0
Precedes c cost job = (c.cost <ℤ cost) ⊎ ((c.cost ≡ cost) × (c.job ≤ job))

-- The candidate stands among the first jobs of the list, is not blocked, and precedes each of them that is not.
pub record IsFirstCandidate (jobs : List ℕ) (blocked : ℕ → Bool) (cost : ℕ → ℤ) (count : ℕ) (c : Candidate) : Type 0 where
  pub early : c.place < count
  pub is : c.job ≡ slice_index_or jobs c.place 0
  pub price : c.cost ≡ cost c.job
  pub free : blocked c.job ≡ false
  pub first : All (λ j. blocked j ≡ false → Precedes c (cost j) j) (take count jobs)

-- What was found among the first jobs of the list: nothing where all are blocked.
abbrev pub IsFound : List ℕ → (ℕ → Bool) → (ℕ → ℤ) → ℕ → Option Candidate → Type 0
IsFound jobs blocked cost count None = All (λ j. blocked j ≡ true) (take count jobs)
IsFound jobs blocked cost count (Some c) = IsFirstCandidate jobs blocked cost count c
