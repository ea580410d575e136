use Rattle.std.proofs.Common.{◌≡◌, ◌<◌, ℕ, length}
use Rattle.msp_assign.specs.Passing.{at}
use Rattle.msp_timetable.proofs.matching.note_owners.Given as goal

-- the rows so far are noted
abbrev pub invariant-loop-row : goal.invariant-loop-row
invariant-loop-row l = record {
  columns : l.seats.columns.items ≡ l.initial.seats.columns.items;
  size : length l.seats.owner.items ≡ length l.initial.seats.owner.items;
  noted : (r : ℕ) → r < l.row → at l.seats.owner.items (at l.seats.columns.items r) ≡ r;
}
