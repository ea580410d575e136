use Rattle.std.proofs.Common.{◌≡◌, ◌+◌, slice_index}
use Rattle.msp_class.specs.Sums.{total_below}
use Rattle.msp_due.specs.Steps.{IsLowered}
use Rattle.msp_due.proofs.lowering.lowered_by.Given as goal

-- the ends so far
abbrev pub invariant-loop-end : goal.invariant-loop-end
invariant-loop-end l = record {
  after : l.after ≡ total_below l.end (slice_index l.counts);
  slot : IsLowered l.end l.machines (λ c. total_below (c + 1) (slice_index l.counts)) l.due l.slot;
}
