use Rattle.std.proofs.Common.{◌<◌, length}
use Rattle.msp_assign.proofs.backward.last_of.Given as goal

abbrev pub invariant-loop-k : goal.invariant-loop-k
invariant-loop-k l = l.last < length l.left
