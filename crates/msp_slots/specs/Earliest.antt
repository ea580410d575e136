-- The slots of the earliest schedule over release dates, and the pieces that take them.
use Rattle.std.specs.Prelude.{◌≡◌, ℕ, ◌+◌, ◌*◌, ◌<◌, ◌≤◌, List, length, slice_index_or}
use Rattle.msp_class.specs.declared.sizes.TheConstants.{GREATEST}
use Rattle.msp_pieces.specs.declared.Piece.{Piece}
use Rattle.msp_slots.specs.declared.earliest.Slot.{Slot}
use Rattle.msp_slots.specs.Pieces.{piece_at}
use Rattle.msp_slots.specs.Seating.{begin_at, IsSeated, IsTight, Rises}

-- What is read where there is no slot.
abbrev pub no_slot : Slot
no_slot = record { start = 0; machine = 0 }

-- When the slot of this number begins, and its machine; and the release date of this number.
abbrev pub start_in : List Slot → ℕ → ℕ
start_in slots k = (slice_index_or slots k no_slot).start

abbrev pub machine_in : List Slot → ℕ → ℕ
machine_in slots k = (slice_index_or slots k no_slot).machine

abbrev pub head_in : List ℕ → ℕ → ℕ
head_in heads k = slice_index_or heads k 0

-- The slots for release dates in rising order, one for each, as early as a machine is left: while one waits that is released, all machines
-- are taken. They begin in rising order, at one time on machines in order.
pub record AreSlots (machines : ℕ) (heads : List ℕ) (slots : List Slot) : Type 0 where
  pub count : length slots ≡ length heads
  pub seated : IsSeated (length heads) machines (head_in heads) (start_in slots)
  pub tight : IsTight (length heads) machines (head_in heads) (start_in slots)
  pub rises : Rises (length heads) (start_in slots)
  pub machine : (j : ℕ) → j < length heads → machine_in slots j ≡ begin_at j (start_in slots) (start_in slots j)
  -- no release date is later than the greatest one of an instance
  pub soon : (j : ℕ) → j < length heads → start_in slots j ≤ 2 * GREATEST + length heads

-- The job in the slot.
abbrev pub slot_piece : ℕ → Slot → Piece
slot_piece j s = piece_at s.start s.machine j

abbrev pub piece_in : List Slot → ℕ → ℕ → Piece
piece_in slots j k = slot_piece j (slice_index_or slots k no_slot)
