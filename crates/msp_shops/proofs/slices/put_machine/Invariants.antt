use Rattle.std.proofs.Common.{◌++◌, ◌+ℤ◌, ◌≤ℤ◌, pos, drop}
use Rattle.msp_timetable.specs.Split.{greatest_sum, total}
use Rattle.msp_shops.specs.Sliced.{row_parts, Joins, AreInRows}
use Rattle.msp_shops.proofs.slices.put_machine.Given as goal

-- with those of the slices to come, the pieces are those of all slices
abbrev pub invariant-loop-k : goal.invariant-loop-k
invariant-loop-k l = record {
  joins : Joins (l.fn.row.pieces.items ++ row_parts l.columns (pos 0) l.machine l.slices) (l.row.pieces.items ++ row_parts l.columns l.row.moment l.machine (drop l.k l.slices));
  rows : AreInRows l.machine l.row.moment l.row.pieces.items;
  begin : pos 0 ≤ℤ l.row.moment;
  short : (l.row.moment +ℤ total (λ s. s.length) (drop l.k l.slices)) ≤ℤ pos greatest_sum;
}
