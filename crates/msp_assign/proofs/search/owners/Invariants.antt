use Rattle.msp_assign.proofs.Owners.{IsOwnersBelow}
use Rattle.msp_assign.proofs.search.owners.Given as goal

-- the rows so far are the owners of their columns
abbrev pub invariant-loop-row : goal.invariant-loop-row
invariant-loop-row l = IsOwnersBelow l.columns l.row l.column_of l.owner.items
