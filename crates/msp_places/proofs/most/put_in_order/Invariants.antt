-- the jobs from the place on are in turn
use Rattle.std.proofs.Common.{◌≤◌, length, IsPermutation}
use Rattle.std.specs.List.{range_with_len}
use Rattle.msp_places.proofs.InTurn.{GoTo}
use Rattle.msp_places.proofs.most.put_in_order.Given as goal

abbrev pub invariant-loop-left : goal.invariant-loop-left
invariant-loop-left l = record {
  all : IsPermutation (range_with_len 0 (length l.inst.jobs)) l.order;
  inside : l.left ≤ length l.order;
  room : l.left ≤ length l.places;
  turns : GoTo l.inst l.unit l.places l.left l.order;
}

abbrev pub decreases-loop-left : goal.decreases-loop-left
decreases-loop-left l = l.left
