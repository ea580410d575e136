use Rattle.msp_lexical.proofs.Cuts.{some_end}
use Rattle.msp_lexical.proofs.segment.last_slot.Goals as goal

pub unreachable-requires : goal.unreachable-requires
unreachable-requires c =
    let s = c.args.slots.now in
    some_end c.args.inst.now s.labels s.seats s.tops s.count c.requires.slots c.args.from c.loop-slot.slot c.requires.from c.loop-slot-test.false c.loop-slot.invariant
