use Rattle.std.proofs.Common.{length}
use Rattle.msp_slots.specs.Steps.{IsUnderWay}
use Rattle.msp_slots.proofs.in_order.pieces_in_order.Given as goal

-- the slots before the moment
abbrev pub invariant-loop-alloc : goal.invariant-loop-alloc
invariant-loop-alloc l = IsUnderWay l.inst l.fn.order.items l.moment l.pieces l.left.items

abbrev pub decreases-loop-alloc : goal.decreases-loop-alloc
decreases-loop-alloc l = length l.left.items
