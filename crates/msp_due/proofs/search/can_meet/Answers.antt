use Rattle.msp_due.proofs.Best.{answers_meet, jobs_inside}
use Rattle.msp_due.proofs.search.can_meet.Goals as goal

pub in_time-requires : goal.in_time-requires
in_time-requires c =
    let made = c.in_ok-in_slots.in_slots in
    record {
      inside = jobs_inside c.args.inst.now c.requires.class c.requires.inner c.args.bound.now
          made.slots.items made.pieces c.in_ok-in_slots.ensures c.as_slice.result.now c.as_slice-2.result.now c.as_slice.ensures c.as_slice-2.ensures.value;
    }

pub returns : goal.returns
returns c =
    let made = c.in_ok-in_slots.in_slots in
    answers_meet c.args.inst.now c.requires.class c.requires.inner c.args.bound.now made.slots.items made.pieces
    c.in_ok-in_slots.ensures c.as_slice.result.now c.as_slice-2.result.now c.as_slice.ensures c.as_slice-2.ensures.value c.in_time.result c.in_time.ensures
