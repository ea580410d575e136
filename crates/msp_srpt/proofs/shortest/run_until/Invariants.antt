use Rattle.std.proofs.Common.{◌+◌, ◌-◌, ◌≤◌, ◌<◌, All, heap_items, heap_len, vec_len}
use Rattle.msp_srpt.specs.Running.{IsQueue, tasks_in, GoesOn}
use Rattle.msp_srpt.proofs.shortest.run_until.Given as goal

-- the rule is carried out up to the moment
abbrev pub invariant-loop-moment : goal.invariant-loop-moment
invariant-loop-moment l = record {
  early : l.moment ≤ l.until;
  left : All (λ x. 0 < x.left) (tasks_in (heap_items l.ready));
  queue : IsQueue (heap_items l.ready);
  next : GoesOn l.until l.from l.moment l.initial.pieces.items (tasks_in (heap_items l.initial.ready)) l.pieces.items (tasks_in (heap_items l.ready));
  few : vec_len l.pieces + heap_len l.ready ≤ vec_len l.initial.pieces + heap_len l.initial.ready + (1 - (l.until - l.moment));
}

abbrev pub decreases-loop-moment : goal.decreases-loop-moment
decreases-loop-moment l = l.until - l.moment
