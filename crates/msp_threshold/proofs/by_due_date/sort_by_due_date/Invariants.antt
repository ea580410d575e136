use Rattle.std.proofs.Common.{IsPermutation}
use Rattle.msp_threshold.specs.Search.{AreReleased}
use Rattle.msp_threshold.proofs.by_due_date.sort_by_due_date.Given as goal

-- jobs have changed places
abbrev pub invariant-loop-place : goal.invariant-loop-place
invariant-loop-place l = record {
  same : IsPermutation l.initial.order l.order;
  released : AreReleased l.jobs l.slots l.order;
}
