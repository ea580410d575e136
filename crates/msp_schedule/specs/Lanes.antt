-- Machines and jobs as that in which pieces must not overlap. No public contract cites this file.
use Rattle.std.specs.Prelude.{◌≡◌, ℕ, ◌<◌, ◌⊎◌, List, Option, Some, None}
use Rattle.msp_pieces.specs.declared.Piece.{Piece}
use Rattle.msp_schedule.specs.declared.overlaps.Lane.{Lane}
use Rattle.msp_schedule.specs.declared.overlaps.Lane.TheVariants.{Machine, Job}
use Rattle.msp_pieces.specs.Piece.{piece_at}
use Rattle.msp_schedule.specs.Breaks.{StandsAhead, Overlaps}

abbrev pub lane_of : Lane → Piece → ℕ
lane_of Machine p = p.machine
lane_of Job p = p.job

-- The one piece comes before the other, by machine or job and then by what stands ahead.
abbrev pub Precedes : (Piece → ℕ) → List Piece → ℕ → ℕ → Type 0
Precedes lane pieces k l = (lane (piece_at pieces k) < lane (piece_at pieces l)) ⊎ ((lane (piece_at pieces k) ≡ lane (piece_at pieces l)) × StandsAhead pieces k l)

-- Among the overlaps whose second piece has a number below the bound, the pair has the second piece that comes first.
abbrev pub IsFirstOverlapBelow : (Piece → ℕ) → List Piece → ℕ → Option (ℕ × ℕ) → Type 0
IsFirstOverlapBelow lane pieces bound None = (k l : ℕ) → l < bound → ¬ Overlaps lane pieces k l
IsFirstOverlapBelow lane pieces bound (Some (a, b)) = Overlaps lane pieces a b × ((k l : ℕ) → l < bound → Overlaps lane pieces k l → ¬ Precedes lane pieces l b)
