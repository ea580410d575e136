use Rattle.msp_assign.specs.View.{AreFirst}
use Rattle.msp_assign.proofs.placement.first_columns.Given as goal

-- those of the lines so far
abbrev pub invariant-loop-line : goal.invariant-loop-line
invariant-loop-line l = AreFirst l.line l.columns.items
