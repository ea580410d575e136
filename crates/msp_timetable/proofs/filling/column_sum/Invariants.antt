use Rattle.std.proofs.Common.{◌≡◌}
use Rattle.msp_class.specs.Sums.{total_below}
use Rattle.msp_timetable.specs.Square.{cell_at}
use Rattle.msp_timetable.proofs.filling.column_sum.Given as goal

-- the sum so far
abbrev pub invariant-loop-row : goal.invariant-loop-row
invariant-loop-row l = l.sum ≡ total_below l.row (λ k. cell_at l.size l.given k l.column)
