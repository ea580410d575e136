use Rattle.std.proofs.Common.{◌≡◌, ◌<◌, ℕ, length}
use Rattle.msp_assign.specs.Passing.{at}
use Rattle.msp_timetable.specs.Square.{entry}
use Rattle.msp_timetable.proofs.cutting.entries.Given as goal

-- the rows so far have their entries
abbrev pub invariant-loop-row : goal.invariant-loop-row
invariant-loop-row l = record {
  size : length l.entries.items ≡ l.row;
  each : (r : ℕ) → r < l.row → at l.entries.items r ≡ entry l.square l.none l.columns r;
}
