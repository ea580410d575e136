-- The rows that are left.
use Rattle.std.proofs.Common.{length}
use Rattle.msp_carry.proofs.along.+bring_over.Given as goal

abbrev pub decreases-bring_over : goal.decreases-bring_over
decreases-bring_over l = length l.rows.now
