use Rattle.std.proofs.Common.{◌≡◌, length}
use Rattle.msp_total.proofs.slot_assignment.ends_of.Given as goal

-- one for each so far
abbrev pub invariant-loop-k : goal.invariant-loop-k
invariant-loop-k l = length l.ends.items ≡ l.k
