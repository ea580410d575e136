use Rattle.std.proofs.Common.{◌≡◌, length}
use Rattle.msp_due.specs.Steps.{AreDueSlots}
use Rattle.msp_due.proofs.due_slot.due_slots.Given as goal

-- the due slots so far
abbrev pub invariant-loop-job : goal.invariant-loop-job
invariant-loop-job l = record {
  whole : length l.slots.items ≡ l.job;
  slots : AreDueSlots l.inst l.bound l.job l.slots.items;
}
