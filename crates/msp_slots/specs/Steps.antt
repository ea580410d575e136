-- What the steps by which jobs run in the order of a list keep. No public contract cites this file.
use Rattle.std.specs.Prelude.{◌≡◌, ℕ, ◌+◌, ◌<◌, ◌≤◌, ◌⊎◌, Bool, true, false, ◌==◌, ◌&&◌, map, List, [], ◌∷◌, ◌++◌, length, All, AllPairs, Contains, IsPermutation}
use Rattle.std.specs.List.{list_any, range_with_len}
use Rattle.msp_instance.specs.declared.Arc.{Arc}
use Rattle.msp_instance.specs.declared.Instance.{Instance}
use Rattle.msp_pieces.specs.declared.Piece.{Piece}
use Rattle.msp_slots.specs.Pieces.{piece_at}
use Rattle.msp_slots.specs.ListSchedule.{StandsBefore, RunsAhead, WaitsForJob}

-- An arc leads to the job from one of the jobs that are left.
abbrev pub is_blocked : List Arc → List ℕ → ℕ → Bool
is_blocked arcs left j = list_any (λ a. a.after == j && list_any (λ k. k == a.before) left) arcs

-- The jobs are split into those of a slot, none of which is blocked and at most as many as there are machines, and the rest, both in
-- their order. A job of the rest is blocked, or all machines have jobs that stand before it.
pub record IsSlot (jobs : List ℕ) (blocked : ℕ → Bool) (machines : ℕ) (taken rest : List ℕ) : Type 0 where
  pub all : IsPermutation jobs (taken ++ rest)
  pub free : All (λ j. blocked j ≡ false) taken
  pub few : length taken ≤ machines
  pub taken_order : AllPairs (StandsBefore jobs) taken
  pub rest_order : AllPairs (StandsBefore jobs) rest
  pub kept : All (λ j. (blocked j ≡ true) ⊎ ((length taken ≡ machines) × All (λ f. StandsBefore jobs f j) taken)) rest

-- Jobs on machines in order, for the unit of time from the moment on.
abbrev pub seats : ℕ → ℕ → List ℕ → List Piece
seats moment machine [] = []
seats moment machine (j ∷ js) = piece_at moment machine j ∷ seats moment (machine + 1) js

-- The pieces before the moment, and the jobs that are left, which are to begin at the moment at the earliest.
pub record IsUnderWay (i : Instance) (order : List ℕ) (moment : ℕ) (pieces : List Piece) (left : List ℕ) : Type 0 where
  pub begin : ℕ → ℕ
  pub machine : ℕ → ℕ
  pub all : IsPermutation (range_with_len 0 (length i.jobs)) (map (λ p. p.job) pieces ++ left)
  pub ordered : AllPairs (StandsBefore order) left
  pub each : All (λ p. p ≡ piece_at (begin p.job) (machine p.job) p.job) pieces
  pub early : All (λ p. begin p.job < moment) pieces
  pub now : All (λ j. begin j ≡ moment) left
  pub inside : All (λ p. machine p.job < i.machines) pieces
  pub sorted : AllPairs (λ p q. (begin p.job < begin q.job) ⊎ ((begin p.job ≡ begin q.job) × (machine p.job < machine q.job))) pieces
  pub forward : All (λ a. Contains left a.after ⊎ (begin a.before < begin a.after)) i.arcs
  pub closed : All (λ a. Contains left a.before → Contains left a.after) i.arcs
  pub waits : (j x : ℕ) → j < length i.jobs → x < begin j → WaitsForJob i begin x j ⊎ ((m : ℕ) → m < i.machines → RunsAhead i order begin machine x m j)
  pub machines : All (λ p. (m : ℕ) → m < machine p.job → RunsAhead i order begin machine (begin p.job) m p.job) pieces
  pub soon : moment + length left ≤ length i.jobs
