use Rattle.std.proofs.Common.{◌≡◌, ◌*◌, ◌<◌, ℕ, length}
use Rattle.msp_assign.specs.Prices.{price_at}
use Rattle.msp_assign.specs.View.{IsPriceBelow}
use Rattle.msp_assign.proofs.prices.column_prices.Given as goal

-- the prices of the columns in view so far
abbrev pub invariant-loop-k : goal.invariant-loop-k
invariant-loop-k l = record {
  size : length l.prices.items ≡ l.fn.lines * l.fn.long;
  each : (c : ℕ) → c < l.fn.lines * l.fn.long → IsPriceBelow l.fn.long l.columns l.falls l.k c (price_at l.prices.items c);
}
