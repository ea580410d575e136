use Rattle.std.proofs.Common.{ℕ, ◌+◌, ◌<◌, ◌≤◌, length, take, slice_index_or, IsPermutation}
use Rattle.std.specs.List.{range_with_len}
use Rattle.msp_single.specs.Lawler.{GoesLast}
use Rattle.msp_single.proofs.lawler.put_in_order.Given as goal

-- the jobs from the place on go last
abbrev pub invariant-loop-left : goal.invariant-loop-left
invariant-loop-left l = record {
  all : IsPermutation (range_with_len 0 (length l.inst.jobs)) l.order;
  inside : l.left ≤ length l.order;
  last : (k : ℕ) → l.left ≤ k → k < length l.order → GoesLast l.inst (take (k + 1) l.order) (slice_index_or l.order k 0);
}

abbrev pub decreases-loop-left : goal.decreases-loop-left
decreases-loop-left l = l.left
