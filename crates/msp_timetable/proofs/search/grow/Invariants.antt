use Rattle.std.proofs.Common.{◌≤◌, length}
use Rattle.msp_assign.specs.Passing.{at}
use Rattle.msp_timetable.specs.Square.{stock, IsSearch}
use Rattle.msp_timetable.proofs.search.grow.Given as goal

-- the columns so far are scanned
abbrev pub invariant-loop-column : goal.invariant-loop-column
invariant-loop-column l = record {
  search : IsSearch l.square.size (stock l.square) l.seats.columns.items (at l.initial.search.tree.items 0) l.place l.column l.search.from.items l.search.tree.items;
  longer : length l.initial.search.tree.items ≤ length l.search.tree.items;
}
