use Rattle.std.proofs.Common.{◌+◌, ◌-◌, length, set, ap, ◌∙◌}
use Rattle.msp_cut_sums.specs.Sums.{at}
use Rattle.msp_cut_sums.proofs.Steps.{ends_first, ends_next}
use Rattle.msp_cut_sums.proofs.stacks.ends_of.Goals as goal

pub loop-back-init : goal.loop-back-init
loop-back-init c = ends_first c.args.machines c.args.times.now c.in_ok-ends.ends.items c.in_ok-ends.ensures.many c.in_ok-ends.ensures.none

pub loop-back-preserved : goal.loop-back-preserved
loop-back-preserved c =
    let times = c.args.times.now in
    let ends = c.loop-back.ends.items in
    let place = length times - 1 - c.loop-back.back in
    ends_next c.args.machines c.loop-back.back times ends c.requires.some c.loop-back-test.true c.requires.short c.loop-back.invariant _
    (ap (λ x. set ends place (at times place + x)) (c.end_at-begin.ensures ∙ ap (λ xs. at xs (place + c.args.machines)) c.as_slice.ensures.value))
