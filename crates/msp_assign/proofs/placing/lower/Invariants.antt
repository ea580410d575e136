use Rattle.msp_assign.proofs.Lowering.{IsLowering}
use Rattle.msp_assign.proofs.placing.lower.Given as goal

-- the columns of the rows so far have fallen
abbrev pub invariant-loop-place : goal.invariant-loop-place
invariant-loop-place l = IsLowering l.far l.distance l.column_of l.tree l.initial.falls l.falls l.place
