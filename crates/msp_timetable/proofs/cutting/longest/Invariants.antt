use Rattle.std.proofs.Common.{◌≡◌, ◌<◌, ◌≤◌, ℕ}
use Rattle.msp_timetable.specs.Square.{used_at}
use Rattle.msp_timetable.proofs.cutting.longest.Given as goal

-- the least of the rows so far
abbrev pub invariant-loop-row : goal.invariant-loop-row
invariant-loop-row l = record {
  least : (r : ℕ) → r < l.row → l.least ≤ used_at l.square l.columns r;
  some : (r : ℕ) × (r < l.row) × (used_at l.square l.columns r ≡ l.least);
}
