use Rattle.std.proofs.Common.{◌≡◌, ◌+◌, ◌<◌, ℕ, length}
use Rattle.msp_assign.specs.Passing.{at}
use Rattle.msp_timetable.specs.Square.{row_total, column_total}
use Rattle.msp_timetable.proofs.filling.compare.Given as goal

-- what the lines so far lack
abbrev pub invariant-loop-line : goal.invariant-loop-line
invariant-loop-line l = record {
  row_size : length l.rows.items ≡ l.line;
  column_size : length l.columns.items ≡ l.line;
  each_row : (r : ℕ) → r < l.line → row_total l.size l.given r + at l.rows.items r ≡ l.greatest;
  each_column : (c : ℕ) → c < l.line → column_total l.size l.given c + at l.columns.items c ≡ l.greatest;
}
