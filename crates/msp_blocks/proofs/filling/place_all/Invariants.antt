use Rattle.std.proofs.Common.{length, slice_index_or}
use Rattle.msp_blocks.specs.Filling.{IsFilling, IsBound, CostAtMost, greatest_end}
use Rattle.msp_blocks.proofs.filling.place_all.Given as goal

-- the pieces of the jobs that are placed, and the block whose last job costs most of them
abbrev pub invariant-places : goal.invariant-places
invariant-places l = record {
  filling : IsFilling l.inst (λ j. slice_index_or l.heads j 0) greatest_end l.left.items l.pieces;
  bound : IsBound l.inst l.heads l.bound.jobs l.bound.cost;
  costs : CostAtMost l.inst l.bound.cost l.left.items l.pieces;
}

abbrev pub decreases-places : goal.decreases-places
decreases-places l = length l.left.items
