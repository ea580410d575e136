use Rattle.std.proofs.Common.{arith}
use Rattle.msp_lexical.specs.Slots.{first_in, second_in}
use Rattle.msp_lexical.proofs.Cuts.{pairs-next, segment-made}
use Rattle.msp_lexical.proofs.segment.segment_of.Goals as goal

pub loop-slot-preserved : goal.loop-slot-preserved
loop-slot-preserved c =
    let seats = c.args.seats.now in
    pairs-next (first_in seats) (second_in seats) c.args.from c.loop-slot.slot c.loop-slot.jobs c.put.new.self c.put-in-loop-slot.new.self
    (omega (arith, c.loop-slot.auto.slot)) c.in_ok-put.ensures.put c.in_ok-put-2.ensures.put c.loop-slot.invariant

pub returns : goal.returns
returns c =
    let seats = c.args.seats.now in
    segment-made (first_in seats) (second_in seats) c.args.from c.loop-slot.slot c.args.last c.loop-slot.jobs c.put-2.new.self c.requires.order
    (omega (arith, c.loop-slot-test.false, c.loop-slot.auto.slot-end c.requires.order)) c.in_ok-put-3.ensures.put c.loop-slot.invariant
