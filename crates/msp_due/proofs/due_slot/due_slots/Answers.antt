use Rattle.msp_due.proofs.DueSlots.{AreDueSlots-next}
use Rattle.std.proofs.Common.{◌∙◌, ap, length, ◌++◌, ◌∷◌, [], arith}
use Rattle.std.proofs.lemmas.List.{length-append}
use Rattle.msp_due.proofs.due_slot.due_slots.Goals as goal

pub loop-job-preserved : goal.loop-job-preserved
loop-job-preserved c =
    let more = c.in_ok-push.ensures.items in
    record {
      whole = omega (arith, ap length more, length-append c.loop-job.slots.items (c.due_slot.result ∷ []), c.loop-job.invariant.whole);
      slots = AreDueSlots-next c.args.inst.now c.args.bound.now c.loop-job.job c.loop-job.slots.items _ c.due_slot.result more c.loop-job.invariant.whole c.due_slot.ensures c.loop-job.invariant.slots;
    }
