use Rattle.std.proofs.Common.{◌≡◌, ◌<◌, ℕ, length}
use Rattle.msp_assign.specs.Passing.{at}
use Rattle.msp_assign.specs.View.{number_at}
use Rattle.msp_assign.proofs.prices.numbers.Given as goal

-- the numbers of the columns of the rows so far
abbrev pub invariant-loop-row : goal.invariant-loop-row
invariant-loop-row l = record {
  size : length l.numbers.items ≡ l.row;
  each : (r : ℕ) → r < l.row → at l.numbers.items r ≡ number_at l.long l.columns (at l.column_of r);
}
