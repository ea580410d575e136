-- The rows that are left.
use Rattle.std.proofs.Common.{length}
use Rattle.msp_carry.proofs.along.+carry_on.Given as goal

abbrev pub decreases-carry_on : goal.decreases-carry_on
decreases-carry_on l = length l.rows.now
