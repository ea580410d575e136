use Rattle.std.proofs.Common.{ℕ, ◌<◌, ◌≤◌, length}
use Rattle.std.specs.Prelude.{slice_index}
use Rattle.msp_weighted.proofs.table.best_moment.Given as goal

-- the greatest of the values so far
abbrev pub invariant-loop-moment : goal.invariant-loop-moment
invariant-loop-moment l = record {
  inside : l.best < length l.values;
  best : (t : ℕ) → t < l.moment → slice_index l.values t ≤ slice_index l.values l.best;
}
