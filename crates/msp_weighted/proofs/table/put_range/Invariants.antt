use Rattle.std.proofs.Common.{◌≤◌, length}
use Rattle.msp_weighted.specs.Values.{AreReached}
use Rattle.msp_weighted.specs.Steps.{IsPutFrom}
use Rattle.msp_weighted.proofs.table.put_range.Given as goal

-- the job is put in at the moments from this one on
abbrev pub invariant-loop-moment : goal.invariant-loop-moment
invariant-loop-moment l = record {
  least : l.first ≤ l.moment;
  most : l.moment ≤ l.end;
  put : IsPutFrom l.entry l.moment l.end l.fn.values l.fn.flags l.values l.flags;
  reached : AreReached (length l.fn.values) l.values l.reached;
}

abbrev pub decreases-loop-moment : goal.decreases-loop-moment
decreases-loop-moment l = l.moment
