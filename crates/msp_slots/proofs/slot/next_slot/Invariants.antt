use Rattle.std.proofs.Common.{take}
use Rattle.msp_slots.specs.Steps.{is_blocked, IsSlot}
use Rattle.msp_slots.proofs.slot.next_slot.Given as goal

-- the jobs so far
abbrev pub invariant-loop-job : goal.invariant-loop-job
invariant-loop-job l = IsSlot (take l.job-index l.left) (is_blocked l.sorted l.left) l.machines l.split.taken.items l.split.rest.items
