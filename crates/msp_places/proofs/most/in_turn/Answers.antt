use Rattle.std.proofs.Common.{slice_index_or}
use Rattle.msp_places.proofs.MostSteps.{piece_next}
use Rattle.msp_places.proofs.most.in_turn.Goals as goal

pub loop-turn-preserved : goal.loop-turn-preserved
loop-turn-preserved c = piece_next c.args.places.now (λ k. slice_index_or c.args.order.now k 0)
    (λ k. k) c.loop-turn.turn c.put.new.self c.loop-turn.pieces _ c.in_ok-put.ensures.put c.piece_in-next.ensures c.loop-turn.invariant
