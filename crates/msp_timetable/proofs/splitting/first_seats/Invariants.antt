use Rattle.std.proofs.Common.{◌≡◌, ◌<◌, ℕ, length}
use Rattle.msp_assign.specs.Passing.{at}
use Rattle.msp_timetable.proofs.splitting.first_seats.Given as goal

-- the lines so far
abbrev pub invariant-loop-line : goal.invariant-loop-line
invariant-loop-line l = record {
  columns : length l.columns.items ≡ l.line;
  owner : length l.owner.items ≡ l.line;
  column_is : (r : ℕ) → r < l.line → at l.columns.items r ≡ r;
  owner_is : (r : ℕ) → r < l.line → at l.owner.items r ≡ r;
}
