use Rattle.std.proofs.Common.{◌<◌, ℕ}
use Rattle.msp_assign.specs.Passing.{at}
use Rattle.msp_timetable.specs.Square.{stock, IsPermuted, IsOwners}
use Rattle.msp_timetable.proofs.matching.match_rows.Given as goal

-- the rows so far hold stock at their columns
abbrev pub invariant-loop-row : goal.invariant-loop-row
invariant-loop-row l = record {
  permuted : IsPermuted l.square.size l.seats.columns.items;
  owners : IsOwners l.square.size l.seats.columns.items l.seats.owner.items;
  stocks : (r : ℕ) → r < l.row → 0 < stock l.square r (at l.seats.columns.items r);
}
