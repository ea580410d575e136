-- The greatest of works over speeds. No public contract cites this file.
use Rattle.std.specs.Prelude.{◌≡◌, ℕ, ◌*◌, ◌<◌, ◌≤◌, ◌⊎◌, List, length, take, sum_by}

-- A work over a speed is the greater of two.
abbrev pub IsGreater : ℕ → ℕ → ℕ → ℕ → ℕ → ℕ → Type 0
IsGreater w v w' v' work speed = ((work ≡ w) × (speed ≡ v) × (w' * v ≤ w * v')) ⊎ ((work ≡ w') × (speed ≡ v') × (w * v' ≤ w' * v))

-- The work over the speed is the greatest of all works over all speeds, and of the first k over the first k, for each k up to the last.
pub record IsGreatestUpTo (last : ℕ) (time speed : ℕ → ℕ) (jobs machines : List ℕ) (w v : ℕ) : Type 0 where
  pub some : 1 ≤ v
  pub total : sum_by time jobs * v ≤ w * sum_by speed machines
  pub firsts : (k : ℕ) → k ≤ last → sum_by time (take k jobs) * v ≤ w * sum_by speed (take k machines)
  pub reached : ((w ≡ sum_by time jobs) × (v ≡ sum_by speed machines)) ⊎ ((k : ℕ) × (1 ≤ k) × (k ≤ last) × (w ≡ sum_by time (take k jobs)) × (v ≡ sum_by speed (take k machines)))

-- It is the greatest, where k is below the number of machines and at most the number of jobs.
pub record IsGreatest (time speed : ℕ → ℕ) (jobs machines : List ℕ) (w v : ℕ) : Type 0 where
  pub some : 1 ≤ v
  pub total : sum_by time jobs * v ≤ w * sum_by speed machines
  pub firsts : (k : ℕ) → k < length machines → k ≤ length jobs → sum_by time (take k jobs) * v ≤ w * sum_by speed (take k machines)
  pub reached : ((w ≡ sum_by time jobs) × (v ≡ sum_by speed machines))
      ⊎ ((k : ℕ) × (1 ≤ k) × (k < length machines) × (k ≤ length jobs) × (w ≡ sum_by time (take k jobs)) × (v ≡ sum_by speed (take k machines)))
