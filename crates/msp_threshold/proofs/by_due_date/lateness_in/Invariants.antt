use Rattle.std.proofs.Common.{ℕ, ◌+◌, ◌*◌, ◌<◌, pos, ◌+ℤ◌, ◌≤ℤ◌}
use Rattle.msp_class.specs.declared.sizes.TheConstants.{GREATEST}
use Rattle.msp_instance.specs.Conditions.{LiesWithin}
use Rattle.msp_slots.specs.Earliest.{start_in}
use Rattle.msp_threshold.specs.Search.{job_in}
use Rattle.msp_threshold.proofs.by_due_date.lateness_in.Given as goal

-- the greatest lateness so far
abbrev pub invariant-loop-place : goal.invariant-loop-place
invariant-loop-place l = record {
  late : (k : ℕ) → k < l.place → pos (start_in l.seats.slots.items k + 1) ≤ℤ ((job_in l.jobs l.seats.order.items k).due +ℤ l.high);
  size : LiesWithin (5 * GREATEST) l.high;
}
