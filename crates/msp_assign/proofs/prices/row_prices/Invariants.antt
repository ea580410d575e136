use Rattle.std.proofs.Common.{◌≡◌, ◌<◌, ℕ, pos, length}
use Rattle.msp_assign.specs.Passing.{at}
use Rattle.msp_assign.specs.Prices.{price_at}
use Rattle.msp_assign.specs.Search.{paid, sizes}
use Rattle.msp_assign.proofs.prices.row_prices.Given as goal

-- the prices of the rows so far
abbrev pub invariant-loop-row : goal.invariant-loop-row
invariant-loop-row g l = record {
  size : length l.prices.items ≡ l.row;
  each : (r : ℕ) → r < l.row → price_at l.prices.items r ≡ pos (paid (sizes (g.C.Costs.cost l.costs)) l.falls r (at l.column_of r));
}
