-- The pieces that take slots of the earliest schedule. No public contract cites this file.
use Rattle.std.specs.Prelude.{◌≡◌, ℕ, ◌<◌, Bool, List, length, slice_index_or}
use Rattle.msp_class.specs.declared.class.Class.{Class}
use Rattle.msp_instance.specs.declared.Instance.{Instance}
use Rattle.msp_pieces.specs.declared.Piece.{Piece}
use Rattle.msp_slots.specs.declared.earliest.Slot.{Slot}
use Rattle.msp_slots.specs.Earliest.{piece_in}
use Rattle.msp_total.specs.Slots.{tardiness_class}
use Rattle.msp_total.specs.LeastSlots.{slot_crit, AreLeastSlots}

-- The class that is solved: by the weighted tardiness, or where `late` is false, by the weighted number of late jobs.
abbrev pub slot_class : Bool → Class
slot_class late = record tardiness_class { crit = slot_crit late }

-- The pieces of the first jobs, each in the slot of its column.
pub record AreLaid (slots : List Slot) (column : List ℕ) (count : ℕ) (pieces : List Piece) : Type 0 where
  pub all : length pieces ≡ count
  pub each : (j : ℕ) (d : Piece) → j < count → slice_index_or pieces j d ≡ piece_in slots j (slice_index_or column j 0)

-- The pieces take slots of the earliest schedule, at least cost.
pub record AreLeastLaid (i : Instance) (late : Bool) (pieces : List Piece) : Type 0 where
  pub slots : List Slot
  pub column : List ℕ
  pub least : AreLeastSlots i late i.machines 1 slots column
  pub laid : AreLaid slots column (length i.jobs) pieces
