use Rattle.msp_slots.proofs.Filling.{filled_next}
use Rattle.msp_slots.proofs.earliest.earliest_slots.Goals as goal

pub loop-k-preserved : goal.loop-k-preserved
loop-k-preserved c =
    filled_next c.args.machines c.args.releases.now c.loop-k.k c.loop-k.moment
    c.loop-k.taken c.loop-k.slots.items c.push.new.self.items c.next_slot-slot.result c.requires.some c.loop-k-test.true c.requires.early c.requires.rising
    c.loop-k.invariant c.next_slot-slot.ensures c.in_ok-push.ensures.items
