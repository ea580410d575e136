use Rattle.std.proofs.Common.{pos}
use Rattle.msp_shops.specs.Sliced.{laid, Joins, AreInRows}
use Rattle.msp_shops.proofs.slices.lay_slices.Given as goal

-- the pieces of the machines so far
abbrev pub invariant-loop-machine : goal.invariant-loop-machine
invariant-loop-machine l = record {
  joins : Joins (laid l.columns l.slices l.machine) l.row.pieces.items;
  rows : AreInRows l.machine (pos 0) l.row.pieces.items;
}
