-- The pieces of the first jobs as the rule lays them, machine after machine. No public contract cites this file.
use Rattle.std.specs.Prelude.{◌≡◌, ◌≢◌, ℕ, ◌+◌, ◌*◌, ◌<◌, ◌≤◌, ◌⊎◌, List, length, pos, All, AllPairs}
use Rattle.msp_class.specs.Sums.{total_below}
use Rattle.msp_instance.specs.declared.Instance.{Instance}
use Rattle.msp_pieces.specs.declared.Piece.{Piece}
use Rattle.msp_pieces.specs.Intervals.{IsApartOn, work_of}
use Rattle.msp_pieces.specs.Piece.{job_of, start, finish, IsTimed}
use Rattle.msp_pieces.specs.BackToBack.{time_at}

-- A piece of a job's one operation.
abbrev pub part : ℕ → ℕ → ℕ → ℕ → Piece
part job machine from to = record { job = job; op = 0; machine = machine; from = pos from; to = pos to }

abbrev pub machine_of : Piece → ℕ
machine_of p = p.machine

-- The pieces stand on the machines before `machine`, and on it until `moment`; on each machine they are apart, and end by `end`.
pub record IsLaid (machines end machine moment : ℕ) (pieces : List Piece) : Type 0 where
  pub timed : All IsTimed pieces
  pub ends : All (λ p. finish p ≤ end) pieces
  pub place : All (λ p. (p.op ≡ 0) × (p.machine < machines)) pieces
  pub below : All (λ p. (p.machine < machine) ⊎ ((p.machine ≡ machine) × (finish p ≤ moment))) pieces
  pub apart : AllPairs (IsApartOn machine_of start finish) pieces

-- The pieces are those of the jobs before number `jobs`, each with all its work, where the unit is the number of machines. Machine after
-- machine is full up to the place.
pub record IsWrapped (i : Instance) (end jobs machine moment : ℕ) (pieces : List Piece) : Type 0 where
  pub filled : machine * end + moment ≡ i.machines * total_below jobs (time_at i)
  pub early : moment ≤ end
  pub laid : IsLaid i.machines end machine moment pieces
  pub jobs_before : All (λ p. p.job < jobs) pieces
  pub apart : AllPairs (IsApartOn job_of start finish) pieces
  pub work : (j : ℕ) → j < jobs → work_of job_of start finish pieces j ≡ i.machines * time_at i j
  pub few : length pieces ≤ 2 * jobs

-- The same of all jobs, wherever the last one ends.
abbrev pub IsWhollyWrapped : Instance → ℕ → List Piece → Type 0
IsWhollyWrapped i end pieces = (machine : ℕ) × (moment : ℕ) × IsWrapped i end (length i.jobs) machine moment pieces

-- A place with room before the end: the place itself, and where it has none, the begin of the next machine.
abbrev pub HasOpened : ℕ → ℕ → ℕ → ℕ → ℕ → Type 0
HasOpened end machine moment next_machine next_moment =
    ((moment ≢ end) × (next_machine ≡ machine) × (next_moment ≡ moment)) ⊎ ((moment ≡ end) × (next_machine ≡ machine + 1) × (next_moment ≡ 0))
