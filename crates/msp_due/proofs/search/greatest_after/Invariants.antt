use Rattle.std.proofs.Common.{ℤ}
use Rattle.msp_instance.specs.Conditions.{LiesWithin}
use Rattle.msp_pieces.specs.Within.{greatest_cost}
use Rattle.msp_due.specs.Steps.{IsGreatestCost}
use Rattle.msp_due.proofs.search.greatest_after.Given as goal

-- the greatest of the jobs so far
abbrev pub invariant-loop-job : goal.invariant-loop-job
invariant-loop-job l = record {
  greatest : IsGreatestCost l.inst l.slots l.job l.greatest;
  size : LiesWithin greatest_cost l.greatest;
}
