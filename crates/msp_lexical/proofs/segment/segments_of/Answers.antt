use Rattle.std.proofs.Common.{arith, subst, sym}
use Rattle.msp_lexical.specs.Lexical.{IsLeastCost}
use Rattle.msp_lexical.proofs.Cuts.{CutTo-next, AreSegments-cut}
use Rattle.msp_lexical.proofs.segment.segments_of.Goals as goal

pub loop-from-preserved : goal.loop-from-preserved
loop-from-preserved c = λ cut.
    let s = c.args.slots.now in
    let last = c.last_slot-last.ensures in
    CutTo-next c.args.inst.now s.labels s.seats s.tops s.count cut c.loop-from.from c.last_slot-last.result c.loop-from.segments c.put.new.self
    c.in_ok-segment_of.field-0 last.after last.inside last.ends last.goes c.in_ok-segment_of.ensures c.in_ok-put.ensures.put (c.loop-from.invariant cut)

pub returns-clause-segments : goal.returns-clause-segments
returns-clause-segments c =
    let s = c.args.slots.now in
    let cut = c.requires.slots in
    (AreSegments-cut c.args.inst.now s.labels s.seats s.tops s.count cut c.loop-from.from c.loop-from.segments (omega (arith, c.loop-from-test.false)) (c.loop-from.invariant cut)).0

pub returns-clause-cost : goal.returns-clause-cost
returns-clause-cost c =
    let s = c.args.slots.now in
    let cut = c.requires.slots in
    let bound = (AreSegments-cut c.args.inst.now s.labels s.seats s.tops s.count cut c.loop-from.from c.loop-from.segments (omega (arith, c.loop-from-test.false)) (c.loop-from.invariant cut)).1 in
    subst (IsLeastCost c.args.inst.now) (sym bound) c.requires.cost
