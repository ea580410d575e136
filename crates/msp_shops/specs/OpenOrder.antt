-- How the jobs of an open shop are laid: one first on one machine and last on the other, and the others between. No public contract cites
-- this file.
use Rattle.std.specs.Prelude.{◌≡◌, ℕ, ◌≤◌, ◌⊎◌, ◌++◌, List, ◌∷◌, length, map, max, min, All, AllPairs, IsPermutation}
use Rattle.std.specs.List.{range_with_len}
use Rattle.msp_instance.specs.declared.Instance.{Instance}
use Rattle.msp_pieces.specs.declared.Piece.{Piece}
use Rattle.msp_shops.specs.declared.pass.JobTimes.{JobTimes}
use Rattle.msp_shops.specs.declared.pass.Moments.{Moments}
use Rattle.msp_shops.specs.declared.pass.Stage.{Stage}
use Rattle.msp_shops.specs.Pass.{part, IsPass}
use Rattle.msp_shops.specs.Times.{times_at}

-- The times of all jobs at two operations, in order of number.
abbrev pub all_times : Instance → ℕ → ℕ → List JobTimes
all_times i first second = map (times_at i first second) (range_with_len 0 (length i.jobs))

-- The same job with its machines exchanged.
abbrev pub turned : JobTimes → JobTimes
turned t = record { job = t.job; first = t.second; second = t.first }

-- The lesser of a job's times.
abbrev pub lesser : JobTimes → ℕ
lesser t = min t.first t.second

-- The job's lesser time is that on the first machine, and no other job has a greater lesser time.
pub record IsSpecial (special : JobTimes) (others : List JobTimes) : Type 0 where
  pub lesser_first : special.first ≤ special.second
  pub greatest : All (λ t. lesser t ≤ lesser special) others

-- Jobs that take no longer on the first machine than on the second come before those that do.
abbrev pub AreGrouped : List JobTimes → Type 0
AreGrouped others = AllPairs (λ s t. t.first ≤ t.second → s.first ≤ s.second) others

-- The special job is first on the second machine and last on the first one, and the others pass between.
abbrev pub IsLaid : Stage → Stage → JobTimes → List JobTimes → List Piece → Type 0
IsLaid first second special others pieces =
    (to : Moments) × (laid : List Piece) × IsPass first second others (record { first = 0; second = special.second }) to laid
    × (pieces ≡ (part special.job second 0 special.second ++ laid) ++ part special.job first (max to.first special.second) special.first)

-- All jobs of the instance are laid so, where one machine or the other is the first.
pub record IsLaidOut (i : Instance) (first second : Stage) (pieces : List Piece) : Type 0 where
  pub special : JobTimes
  pub others : List JobTimes
  pub all : IsPermutation (all_times i first.op second.op) (special ∷ others)
  pub is_special : IsSpecial special others
  pub grouped : AreGrouped others
  pub laid : IsLaid first second special others pieces

abbrev pub on_first : Stage
on_first = record { op = 0; machine = 0 }

abbrev pub on_second : Stage
on_second = record { op = 1; machine = 1 }

abbrev pub IsOpenPlan : Instance → List Piece → Type 0
IsOpenPlan i pieces = IsLaidOut i on_first on_second pieces ⊎ IsLaidOut i on_second on_first pieces
