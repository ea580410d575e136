-- Jobs of one unit of time on identical machines that run in the order of a list: at each moment, of the jobs that no job left must precede,
-- the first in the list, on machines in order.
use Rattle.std.specs.Prelude.{◌≡◌, ℕ, ◌<◌, ◌≤◌, ◌⊎◌, map, List, length, slice_index_or, All, AllPairs, Contains, IsPermutation}
use Rattle.std.specs.List.{range_with_len}
use Rattle.msp_instance.specs.declared.Arc.{Arc}
use Rattle.msp_instance.specs.declared.Instance.{Instance}
use Rattle.msp_pieces.specs.declared.Piece.{Piece}
use Rattle.msp_slots.specs.Pieces.{piece_at}

-- The one stands before the other in the list.
abbrev pub StandsBefore : List ℕ → ℕ → ℕ → Type 0
StandsBefore xs a b = (p : ℕ) × (q : ℕ) × (p < q) × (q < length xs) × (slice_index_or xs p 0 ≡ a) × (slice_index_or xs q 0 ≡ b)

-- The machine runs a job from the moment on that stands before job j in the list.
abbrev pub RunsAhead : Instance → List ℕ → (ℕ → ℕ) → (ℕ → ℕ) → ℕ → ℕ → ℕ → Type 0
RunsAhead i order begin machine moment m j = (k : ℕ) × (k < length i.jobs) × (begin k ≡ moment) × (machine k ≡ m) × StandsBefore order k j

-- A job that must precede job j has not ended at the moment.
abbrev pub WaitsForJob : Instance → (ℕ → ℕ) → ℕ → ℕ → Type 0
WaitsForJob i begin moment j = (a : Arc) × Contains i.arcs a × (a.after ≡ j) × (moment ≤ begin a.before)

-- When each job begins, and its machine.
pub record RunsInOrder (i : Instance) (order : List ℕ) (begin machine : ℕ → ℕ) : Type 0 where
  pub forward : All (λ a. begin a.before < begin a.after) i.arcs
  pub inside : (j : ℕ) → j < length i.jobs → machine j < i.machines
  pub apart : (j k : ℕ) → j < length i.jobs → k < length i.jobs → begin j ≡ begin k → machine j ≡ machine k → j ≡ k
  -- before it begins, a job waits for one that must precede it, or all machines run jobs that stand before it
  pub waits : (j x : ℕ) → j < length i.jobs → x < begin j → WaitsForJob i begin x j ⊎ ((m : ℕ) → m < i.machines → RunsAhead i order begin machine x m j)
  -- and so do the machines before its own when it begins
  pub machines : (j m : ℕ) → j < length i.jobs → m < machine j → RunsAhead i order begin machine (begin j) m j

-- The pieces of all jobs, by moment and machine.
pub record IsListSchedule (i : Instance) (order : List ℕ) (pieces : List Piece) : Type 0 where
  pub begin : ℕ → ℕ
  pub machine : ℕ → ℕ
  pub runs : RunsInOrder i order begin machine
  pub all : IsPermutation (range_with_len 0 (length i.jobs)) (map (λ p. p.job) pieces)
  pub each : All (λ p. p ≡ piece_at (begin p.job) (machine p.job) p.job) pieces
  pub sorted : AllPairs (λ p q. (begin p.job < begin q.job) ⊎ ((begin p.job ≡ begin q.job) × (machine p.job < machine q.job))) pieces
  -- no moment is idle before the last job begins
  pub soon : All (λ p. begin p.job < length i.jobs) pieces
