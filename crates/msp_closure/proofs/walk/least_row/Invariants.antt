-- What the loop of `least_row` keeps.
use Rattle.std.proofs.Common.{ℕ, ◌<◌}
use Rattle.msp_closure.specs.Tables.{allows}
use Rattle.msp_closure.specs.Walk.{LeadsToValue}
use Rattle.msp_closure.proofs.walk.least_row.Given as goal

abbrev pub invariant-loop-k : goal.invariant-loop-k
invariant-loop-k l = (j : ℕ) → j < l.k → ¬ LeadsToValue (allows l.rows) l.table l.c l.value j
