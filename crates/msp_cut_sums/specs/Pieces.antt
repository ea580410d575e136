-- The pieces of the schedules, by the places of the jobs in an order. No public contract cites this file.
use Rattle.std.specs.Prelude.{◌≡◌, ℕ, ◌+◌, ◌*◌, ◌-◌, ◌/◌, ◌%◌, ◌≤◌, List, length, map, All}
use Rattle.std.specs.List.{range_with_len}
use Rattle.msp_instance.specs.declared.Instance.{Instance}
use Rattle.msp_class.specs.declared.sizes.TheConstants.{MOST_JOBS, GREATEST}
use Rattle.msp_instance.specs.Instance.{common_time}
use Rattle.msp_pieces.specs.declared.Piece.{Piece}
use Rattle.msp_pieces.specs.BackToBack.{time_at}
use Rattle.msp_cut_sums.specs.Sums.{at, weight_at, IsByFalling}
use Rattle.msp_cut_sums.specs.Schedules.{part, AreEnds, stacked_piece, blocked_piece}

-- The pieces of the rules in order of the places.
abbrev pub stacked : ℕ → List ℕ → List ℕ → List Piece
stacked m order ends = map (stacked_piece m order ends) (range_with_len 0 (length order))

abbrev pub blocked : ℕ → ℕ → List ℕ → List Piece
blocked m time order = map (blocked_piece m time order) (range_with_len 0 (length order))

-- The slot of place k on a machine of m: the block of m slots is that of the place, and the machines go round from that of its seat.
abbrev pub slot : ℕ → ℕ → ℕ → ℕ
slot m k machine = k / m * m + (machine + (m - k % m)) % m

-- The pieces of operations of one time on each machine, m jobs in m slots: turn x is machine x mod m of place x / m.
abbrev pub squared_piece : ℕ → ℕ → List ℕ → ℕ → Piece
squared_piece m time order x = part (at order (x / m)) (x % m) (x % m) (slot m (x / m) (x % m) * time) ((slot m (x / m) (x % m) + 1) * time)

abbrev pub squared : ℕ → ℕ → List ℕ → List Piece
squared m time order = map (squared_piece m time order) (range_with_len 0 (length order * m))

-- The pieces of the rules, in an order of all jobs by falling time or weight.
abbrev pub IsStacked : Instance → List Piece → Type 0
IsStacked i pieces = (order : List ℕ) × (ends : List ℕ) × IsByFalling (length i.jobs) (time_at i) order × AreEnds i.machines (map (time_at i) order) ends
    × All (λ e. e ≤ MOST_JOBS * GREATEST) ends × (pieces ≡ stacked i.machines order ends)

abbrev pub IsBlocked : Instance → List Piece → Type 0
IsBlocked i pieces = (order : List ℕ) × IsByFalling (length i.jobs) (weight_at i) order × (pieces ≡ blocked i.machines (common_time i) order)

abbrev pub IsSquared : Instance → List Piece → Type 0
IsSquared i pieces = (order : List ℕ) × IsByFalling (length i.jobs) (weight_at i) order × (pieces ≡ squared i.machines (common_time i) order)
