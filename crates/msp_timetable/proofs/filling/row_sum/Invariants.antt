use Rattle.std.proofs.Common.{◌≡◌}
use Rattle.msp_class.specs.Sums.{total_below}
use Rattle.msp_timetable.specs.Square.{cell_at}
use Rattle.msp_timetable.proofs.filling.row_sum.Given as goal

-- the sum so far
abbrev pub invariant-loop-column : goal.invariant-loop-column
invariant-loop-column l = l.sum ≡ total_below l.column (λ k. cell_at l.size l.given l.row k)
