-- The search for the job that costs least. No public contract cites this file.
use Rattle.std.specs.Prelude.{◌≡◌, ℕ, ◌<◌, ◌≤◌, ◌⊎◌, List, take, slice_index_or, ◌<ℤ◌}
use Rattle.msp_instance.specs.declared.Instance.{Instance}
use Rattle.msp_places.specs.declared.most.Candidate.{Candidate}
use Rattle.msp_places.specs.Most.{cost_in, IsCheapest}

-- The candidate costs less than the other one, or as much and has no greater number.
abbrev pub Precedes : Candidate → Candidate → Type 0
Precedes c d = (c.cost <ℤ d.cost) ⊎ ((c.cost ≡ d.cost) × (c.job ≤ d.job))

-- The candidate at the place of the list, and what it costs at the moment.
pub record IsCandidate (i : Instance) (unit end : ℕ) (jobs : List ℕ) (place : ℕ) (c : Candidate) : Type 0 where
  pub place_is : c.place ≡ place
  pub job : c.job ≡ slice_index_or jobs place 0
  pub cost : c.cost ≡ cost_in i unit end c.job

-- Of the first jobs of the list it is the cheapest.
pub record IsBestOf (i : Instance) (unit end : ℕ) (jobs : List ℕ) (count : ℕ) (c : Candidate) : Type 0 where
  pub early : c.place < count
  pub is : IsCandidate i unit end jobs c.place c
  pub cheapest : IsCheapest i unit end (take count jobs) c.job
