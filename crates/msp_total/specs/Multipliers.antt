-- Which job takes which place in the schedules on uniform machines.
use Rattle.std.specs.Prelude.{◌≡◌, ℕ, ◌+◌, ◌*◌, ◌<◌, ◌≤◌, ◌⊎◌, List, length, slice_index_or, ◌≤ℤ◌, AllPairs, ◌==◌, if◌then◌else◌}
use Rattle.msp_class.specs.Sums.{total_below}
use Rattle.msp_instance.specs.declared.Instance.{Instance}
use Rattle.msp_instance.specs.Instance.{need_at}
use Rattle.msp_pieces.specs.declared.Piece.{Piece}
use Rattle.msp_pieces.specs.declared.Schedule.{Schedule}
use Rattle.msp_pieces.specs.Piece.{piece_at}

-- The time of the piece's job.
abbrev pub time_of : Instance → Piece → ℕ
time_of i p = (need_at i p.job 0).time

-- The longer job comes first, and of jobs with equal times the one of the lesser number.
abbrev pub ComesFirst : Instance → Piece → Piece → Type 0
ComesFirst i p q = (time_of i q < time_of i p) ⊎ ((time_of i q ≡ time_of i p) × (p.job < q.job))

abbrev pub machine_of : List Piece → ℕ → ℕ
machine_of pieces r = (piece_at pieces r).machine

abbrev pub speed_of : Instance → ℕ → ℕ
speed_of i m = slice_index_or i.speeds m 0

-- How many of the first jobs are on the machine, where `machine` says on which each of them is.
abbrev pub seats : (ℕ → ℕ) → ℕ → ℕ → ℕ
seats machine r m = total_below r (λ a. if machine a == m then 1 else 0)

-- Where k jobs follow it on a machine of speed s, the time of a job counts (k + 1) / s times. Of these multipliers piece r takes the least that
-- the pieces before it leave, ties to the lesser machine.
pub record TakesLeast (i : Instance) (machine : ℕ → ℕ) (r : ℕ) : Type 0 where
  pub least : (m : ℕ) → m < i.machines → (seats machine r (machine r) + 1) * speed_of i m ≤ (seats machine r m + 1) * speed_of i (machine r)
  pub first : (m : ℕ) → m < machine r → (seats machine r (machine r) + 1) * speed_of i m < (seats machine r m + 1) * speed_of i (machine r)

-- The pieces stand in the order in which their jobs take multipliers, so those of one machine from the last to the first.
pub record IsByMultipliers (i : Instance) (s : Schedule) : Type 0 where
  pub order : AllPairs (ComesFirst i) s.pieces
  pub backwards : AllPairs (λ p q. p.machine ≡ q.machine → q.to ≤ℤ p.from) s.pieces
  pub least : (r : ℕ) → r < length s.pieces → TakesLeast i (machine_of s.pieces) r
