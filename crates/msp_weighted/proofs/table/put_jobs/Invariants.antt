use Rattle.std.proofs.Common.{◌*◌, ◌≤◌, length}
use Rattle.msp_weighted.specs.Values.{AreReached, IsFilled}
use Rattle.msp_weighted.proofs.table.put_jobs.Given as goal

-- the jobs so far are in the table
abbrev pub invariant-loop-k : goal.invariant-loop-k
invariant-loop-k l = record {
  filled : IsFilled l.inst l.order (length l.fn.values) l.k l.values l.flags;
  reached : AreReached (length l.fn.values) l.values l.reached;
  room : length l.fn.values ≤ 4096 * length l.reached;
}
