-- The pieces of jobs that begin in slots of the earliest schedule on one machine. No public contract cites this file.
use Rattle.std.specs.Prelude.{◌≡◌, ℕ, ◌+◌, ◌*◌, ◌/◌, ◌%◌, Bool, List, length, map, pos}
use Rattle.std.specs.List.{range_with_len}
use Rattle.msp_class.specs.declared.class.Class.{Class}
use Rattle.msp_instance.specs.declared.Instance.{Instance}
use Rattle.msp_pieces.specs.declared.Piece.{Piece}
use Rattle.msp_slots.specs.declared.earliest.Slot.{Slot}
use Rattle.msp_slots.specs.Earliest.{start_in}
use Rattle.msp_assign.specs.Prices.{column_of}
use Rattle.msp_total.specs.LeastSlots.{slot_crit, AreLeastSlots}
use Rattle.msp_total.specs.Classes.{lines_late_class}

-- The class that is solved: by the weighted tardiness, or where `late` is false, by the weighted number of late jobs.
abbrev pub line_class : Bool → Class
line_class late = record lines_late_class { crit = slot_crit late }

-- The operation of a job that begins at the moment: on the machine of its number, as many units of time later.
abbrev pub line_part : ℕ → ℕ → ℕ → Piece
line_part job op start = record { job = job; op = op; machine = op; from = pos (start + op); to = pos (start + op + 1) }

-- The pieces of jobs that begin at moments, m for each: turn x is operation x mod m of job x / m.
abbrev pub line_piece : ℕ → (ℕ → ℕ) → ℕ → Piece
line_piece m begin x = line_part (x / m) (x % m) (begin (x / m))

abbrev pub lines_from : ℕ → ℕ → (ℕ → ℕ) → List Piece
lines_from n m begin = map (line_piece m begin) (range_with_len 0 (n * m))

-- Those of the jobs that begin in the slots of their columns.
abbrev pub lined : ℕ → List Slot → List ℕ → List Piece
lined m slots column = lines_from (length column) m (λ j. start_in slots (column_of column j))

-- The jobs begin in slots of the earliest schedule on one machine, at least cost, and end as many units of time later as there are machines.
pub record AreLeastLined (i : Instance) (late : Bool) (pieces : List Piece) : Type 0 where
  pub slots : List Slot
  pub column : List ℕ
  pub least : AreLeastSlots i late 1 i.machines slots column
  pub laid : pieces ≡ lined i.machines slots column
