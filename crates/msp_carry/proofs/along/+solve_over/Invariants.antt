-- The rows that are left.
use Rattle.std.proofs.Common.{length}
use Rattle.msp_carry.proofs.along.+solve_over.Given as goal

abbrev pub decreases-solve_over : goal.decreases-solve_over
decreases-solve_over g l = length l.rows.now
