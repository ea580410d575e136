use Rattle.std.proofs.Common.{◌-◌, ◌<◌, length, get_or, refl, ◌∙◌, arith}
use Rattle.msp_route.proofs.JobReads.{time_read}
use Rattle.msp_weighted.proofs.WalkFacts.{walk-start, walk-next, walk_time}
use Rattle.msp_weighted.proofs.walk.chosen.Goals as goal

pub loop-place-init : goal.loop-place-init
loop-place-init c = record {
  walk = walk-start c.args.inst.now c.args.order.now c.args.moment c.new.result.items c.new-2.result.items c.requires.some c.new.ensures.items c.new-2.ensures.items;
  early = c.requires.inside;
}

pub take_or_leave-requires : goal.take_or_leave-requires
take_or_leave-requires c =
    let i = c.args.inst.now in
    let k : c.loop-place.place - 1 < length c.args.order.now = omega (arith, c.loop-place.invariant.walk.inside, c.loop-place-test.true) in
    let within = c.requires.jobs (c.loop-place.place - 1) 0 k in
    walk_time i c.args.order.now _ c.loop-place.place c.loop-place.choice.moment c.loop-place.choice.on_time.items c.loop-place.choice.left.items c.loop-place-test.true c.loop-place.invariant.walk
    (get_or c.args.order.now (c.loop-place.place - 1) 0) c.first_time-time.result c.is_set-taken.result refl
    (time_read i c.as_slice-jobs.result.now _ _ c.index-jobs-job.result c.as_slice-jobs.ensures within c.index-jobs-job.is c.first_time-time.ensures)
    (c.is_set-taken.ensures ∙ c.requires.flags (c.loop-place.place - 1) c.loop-place.choice.moment k c.loop-place.invariant.early)

pub loop-place-preserved : goal.loop-place-preserved
loop-place-preserved c =
    let i = c.args.inst.now in
    let k : c.loop-place.place - 1 < length c.args.order.now = omega (arith, c.loop-place.invariant.walk.inside, c.loop-place-test.true) in
    let within = c.requires.jobs (c.loop-place.place - 1) 0 k in
    let next = walk-next i c.args.order.now _ c.loop-place.place
    c.loop-place.choice.moment c.loop-place.choice.on_time.items c.loop-place.choice.left.items c.loop-place-test.true c.loop-place.invariant.walk
    (get_or c.args.order.now (c.loop-place.place - 1) 0)
    c.first_time-time.result c.is_set-taken.result c.take_or_leave.new.choice.on_time.items c.take_or_leave.new.choice.left.items c.take_or_leave.new.choice.moment refl
    (time_read i c.as_slice-jobs.result.now _ _ c.index-jobs-job.result c.as_slice-jobs.ensures within c.index-jobs-job.is c.first_time-time.ensures)
    (c.is_set-taken.ensures ∙ c.requires.flags (c.loop-place.place - 1) c.loop-place.choice.moment k c.loop-place.invariant.early)
    c.in_ok-take_or_leave.ensures.taken c.in_ok-take_or_leave.ensures.left in
    record { walk = next.0; early = omega (arith, next.1, c.loop-place.invariant.early) }
