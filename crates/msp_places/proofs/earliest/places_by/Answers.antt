use Rattle.std.proofs.Common.{arith, rules}
use Rattle.msp_places.proofs.Turns.{at_first, turn_taken, ranks_small, ends_small, earliest_at_end}
use Rattle.msp_places.proofs.earliest.places_by.Goals as goal

pub loop-turn-init : goal.loop-turn-init
loop-turn-init c = at_first c.args.lengths.now _ _ c.new-places.ensures.items c.in_ok-next.ensures

pub take_turn-place-requires-clause-same : goal.take_turn-place-requires-clause-same
take_turn-place-requires-clause-same c = c.loop-turn.invariant.taken_are.count

pub take_turn-place-requires-clause-ranks : goal.take_turn-place-requires-clause-ranks
take_turn-place-requires-clause-ranks c = ranks_small c.args.lengths.now c.loop-turn._turn _ _ c.loop-turn.invariant (omega (arith, c.loop-turn-test.true, c.requires.count))

pub take_turn-place-requires-clause-ends : goal.take_turn-place-requires-clause-ends
take_turn-place-requires-clause-ends c = ends_small c.args.lengths.now c.requires.lengths c.loop-turn._turn _ _ c.loop-turn.invariant (omega (arith, c.loop-turn-test.true, c.requires.count))

pub loop-turn-preserved : goal.loop-turn-preserved
loop-turn-preserved c = turn_taken c.args.lengths.now c.requires.lengths c.loop-turn._turn _ _ _ _ _ c.loop-turn.invariant c.take_turn-place.ensures c.in_ok-push.ensures.items

pub returns : goal.returns
returns c = earliest_at_end c.args.lengths.now c.requires.lengths c.args.count _ _ _ c.loop-turn.invariant (search rules)
