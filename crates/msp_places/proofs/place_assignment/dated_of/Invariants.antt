use Rattle.std.proofs.Common.{◌≡◌, length}
use Rattle.msp_places.proofs.place_assignment.dated_of.Given as goal

-- one for each so far
abbrev pub invariant-loop-k : goal.invariant-loop-k
invariant-loop-k l = length l.dated.items ≡ l.k
