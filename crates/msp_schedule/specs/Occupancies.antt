-- What each piece occupies, and when; this is sorted to find overlaps. No public contract cites this file.
use Rattle.std.specs.Prelude.{◌≡◌, ℕ, ◌+◌, ◌<◌, ◌≤◌, ◌⊎◌, List, length, pos, ◌<ℤ◌, slice_index_or}
use Rattle.msp_pieces.specs.declared.Piece.{Piece}
use Rattle.msp_schedule.specs.declared.occupancies.Occupancy.{Occupancy}
use Rattle.msp_schedule.specs.declared.overlaps.Lane.{Lane}
use Rattle.msp_pieces.specs.Piece.{piece_at}
use Rattle.msp_schedule.specs.Lanes.{lane_of}

abbrev pub no_occupancy : Occupancy
no_occupancy = record { lane = 0; number = 0; from = pos 0; to = pos 0 }

abbrev pub occupancy_at : List Occupancy → ℕ → Occupancy
occupancy_at occupancies k = slice_index_or occupancies k no_occupancy

abbrev pub occupancy_of : Lane → Piece → ℕ → Occupancy
occupancy_of lane p k = record { lane = lane_of lane p; number = k; from = p.from; to = p.to }

-- The occupancies of so many pieces, by number.
abbrev pub AreOccupancies : Lane → List Piece → ℕ → List Occupancy → Type 0
AreOccupancies lane pieces n occupancies = (length occupancies ≡ n) × ((k : ℕ) → k < n → occupancy_at occupancies k ≡ occupancy_of lane (piece_at pieces k) k)

-- The second occupancy does not come before the first one, by machine or job, then by beginning, then by number.
abbrev pub IsNotAfter : Occupancy → Occupancy → Type 0
IsNotAfter a b = (a.lane < b.lane) ⊎ ((a.lane ≡ b.lane) × ((a.from <ℤ b.from) ⊎ ((a.from ≡ b.from) × (a.number ≤ b.number))))

-- The second begins before the first one ends, on the same machine or in the same job.
abbrev pub Meets : Occupancy → Occupancy → Type 0
Meets a b = (a.lane ≡ b.lane) × (b.from <ℤ a.to)

-- No two neighbours among so many occupancies meet.
abbrev pub IsClearBelow : List Occupancy → ℕ → Type 0
IsClearBelow occupancies n = (k : ℕ) → k + 1 < n → ¬ Meets (occupancy_at occupancies k) (occupancy_at occupancies (k + 1))

-- The numbers are those of the first two neighbours that meet.
abbrev pub IsFirstMeeting : List Occupancy → ℕ → ℕ → Type 0
IsFirstMeeting occupancies a b = (k : ℕ) × (k + 1 < length occupancies) × ((occupancy_at occupancies k).number ≡ a)
    × ((occupancy_at occupancies (k + 1)).number ≡ b) × Meets (occupancy_at occupancies k) (occupancy_at occupancies (k + 1)) × IsClearBelow occupancies (k + 1)
