-- What is known of the best block so far.
use Rattle.std.proofs.Common.{◌≤◌}
use Rattle.msp_trees.proofs.Loads.{IsBestSoFar}
use Rattle.msp_trees.proofs.joining.next_place.Given as goal

-- the best block so far
abbrev pub invariant-loop-place : goal.invariant-loop-place
invariant-loop-place l = record {
  later : 2 ≤ l.place;
  best : IsBestSoFar l.inst l.blocks l.best l.place;
}
