use Rattle.std.proofs.Common.{◌*◌, ◌≤◌, length}
use Rattle.msp_weighted.specs.Values.{AreReached}
use Rattle.msp_weighted.proofs.RowFacts.{IsRow}
use Rattle.msp_weighted.proofs.table.put_job.Given as goal

-- the moments from the end on are done
abbrev pub invariant-loop-end : goal.invariant-loop-end
invariant-loop-end l = record {
  row : IsRow l.entry.time l.entry.weight l.due l.entry.row (length l.fn.values) l.end l.fn.values l.fn.flags l.values l.flags;
  reached : AreReached (length l.fn.values) l.values l.reached;
  room : length l.fn.values ≤ 4096 * length l.reached;
}

abbrev pub decreases-loop-end : goal.decreases-loop-end
decreases-loop-end l = l.end
