use Rattle.std.proofs.Common.{◌-◌, ◌<◌, length}
use Rattle.msp_timetable.specs.Square.{stock, IsSearch}
use Rattle.msp_timetable.proofs.search.find.Given as goal

-- the rows before the place are scanned
abbrev pub invariant-places : goal.invariant-places
invariant-places l = record {
  search : IsSearch l.square.size (stock l.square) l.seats.columns.items l.row l.place 0 l.search.from.items l.search.tree.items;
  here : l.place < length l.search.tree.items;
}

abbrev pub decreases-places : goal.decreases-places
decreases-places l = l.square.size - l.place
