use Rattle.std.proofs.Common.{ℕ, ◌+◌, ◌*◌, ◌≤◌, ◌<◌, All, length, get_or, take, heap_items, heap_len, vec_len}
use Rattle.msp_class.specs.declared.sizes.TheConstants.{GREATEST}
use Rattle.msp_instance.specs.Instance.{job_at}
use Rattle.msp_srpt.specs.Running.{IsQueue, tasks_in, IsUnderWay}
use Rattle.msp_srpt.proofs.shortest.pieces_by_release.Given as goal

-- the jobs so far have come, and the rule is carried out up to the last one's release date
abbrev pub invariant-loop-k : goal.invariant-loop-k
invariant-loop-k l = record {
  later : (m : ℕ) → l.k ≤ m → m < length l.order → l.moment ≤ (job_at l.inst (get_or l.order m 0)).release;
  early : l.moment ≤ 2 * GREATEST;
  left : All (λ x. 0 < x.left) (tasks_in (heap_items l.ready));
  queue : IsQueue (heap_items l.ready);
  way : IsUnderWay l.inst (take l.k l.order) l.moment l.pieces.items (tasks_in (heap_items l.ready));
  few : vec_len l.pieces + heap_len l.ready ≤ 2 * l.k;
}
