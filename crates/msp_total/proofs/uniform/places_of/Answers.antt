use Rattle.std.proofs.Common.{refl, arith, slice_index_or}
use Rattle.msp_total.specs.Turns.{no_timed}
use Rattle.msp_total.proofs.TurnSteps.{next-small, turn_taken}
use Rattle.msp_total.proofs.uniform.places_of.Goals as goal

pub take_turn-place-requires-clause-next : goal.take_turn-place-requires-clause-next
take_turn-place-requires-clause-next c =
    next-small c.args.steps.now c.loop-timed.places.items _ c.requires.steps (omega (arith, c.loop-timed.invariant.count, c.loop-timed-test.true, c.requires.jobs)) c.loop-timed.invariant.next

pub loop-timed-preserved : goal.loop-timed-preserved
loop-timed-preserved c =
    let more = c.in_ok-push.ensures.items in
    let next = turn_taken c.args.steps.now c.args.jobs.now c.loop-timed.places.items c.take_turn-place.result c.loop-timed.timed-index c.loop-timed.next.items
    _ _ (slice_index_or c.args.jobs.now c.loop-timed.timed-index no_timed) more c.loop-timed.invariant.count c.loop-timed-test.true refl c.take_turn-place.ensures.least
    c.take_turn-place.ensures.job c.take_turn-place.ensures.length_is c.take_turn-place.ensures.next c.loop-timed.invariant.next c.loop-timed.invariant.turns in
    record { count = next.count; turns = next.turns; next = next.next }
