-- What jobs cost at the positions of unrelated machines.
use Rattle.std.specs.Prelude.{ℕ, ◌+◌, ◌*◌, ◌/◌, ◌%◌, List, ℤ, pos, slice_index_or}

-- The time of a job on a machine, in a list of times by job and machine.
abbrev pub time_in : ℕ → List ℕ → ℕ → ℕ → ℕ
time_in machines times j m = slice_index_or times (j * machines + m) 0

-- Columns are positions, machine after machine, on every machine as many as there are jobs, the last position of a machine first. The job
-- adds its time to the sum of completion times once for itself, and once for each job that follows.
abbrev pub position_cost : ℕ → ℕ → List ℕ → ℕ → ℕ → ℤ
position_cost jobs machines times j c = pos ((c % jobs + 1) * time_in machines times j (c / jobs))
