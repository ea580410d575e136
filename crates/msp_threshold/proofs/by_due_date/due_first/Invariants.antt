use Rattle.std.proofs.Common.{◌≤◌, ◌<◌, length}
use Rattle.msp_threshold.specs.Search.{IsReleased}
use Rattle.msp_threshold.proofs.by_due_date.due_first.Given as goal

-- the one that is due first so far
abbrev pub invariant-loop-later : goal.invariant-loop-later
invariant-loop-later l = record {
  least : l.place ≤ l.first;
  most : l.first < length l.order;
  released : IsReleased l.jobs l.order l.moment l.first;
}
