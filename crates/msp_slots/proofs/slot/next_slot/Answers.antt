use Rattle.std.proofs.Common.{◌∙◌, refl, rules}
use Rattle.msp_slots.specs.Steps.{is_blocked}
use Rattle.msp_slots.proofs.SlotSteps.{blocked-flagged, IsSlot-room, IsSlot-full, IsSlot-all}
use Rattle.msp_slots.proofs.slot.next_slot.Goals as goal
use Rattle.msp_slots.proofs.slot.next_slot.Goals.{then-len-machines, else-len-machines}

pub loop-job-preserved : goal.loop-job-preserved
loop-job-preserved c =
    let shut = is_blocked c.args.sorted.now c.args.left.now in
    elim c.if-len-machines.branch [
      | then-len-machines w ↦
          IsSlot-room c.args.left.now shut c.args.machines _ _ _ _ c.loop-job.job-index _ c.if-len-machines.goes _ c.loop-job-test.true refl (search rules) w.goes-is
          (w.follows_flagged.ensures ∙ blocked-flagged c.args.sorted.now c.args.left.now c.flags_of-is_left.result _ c.requires.ends c.flags_of-is_left.ensures)
          c.in_ok-put.ensures.taken c.in_ok-put.ensures.rest c.loop-job.invariant
      | else-len-machines w ↦
          IsSlot-full c.args.left.now shut c.args.machines _ _ _ _ c.loop-job.job-index _ c.len.result c.if-len-machines.goes c.loop-job-test.true refl
          (search rules) (search rules) w.goes-is c.in_ok-put.ensures.taken c.in_ok-put.ensures.rest c.loop-job.invariant
    ]

pub returns : goal.returns
returns c = IsSlot-all c.args.left.now (is_blocked c.args.sorted.now c.args.left.now) c.args.machines _ _ c.loop-job.job-index (search rules) c.loop-job.invariant
