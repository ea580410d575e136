use Rattle.std.proofs.Common.{◌≡◌, ◌<◌, ℕ, length}
use Rattle.msp_assign.specs.Passing.{at}
use Rattle.msp_assign.proofs.search.all_columns.Given as goal

-- the columns so far
abbrev pub invariant-loop-column : goal.invariant-loop-column
invariant-loop-column l = record {
  size : length l.all.items ≡ l.column;
  each : (c : ℕ) → c < l.column → at l.all.items c ≡ c;
}
