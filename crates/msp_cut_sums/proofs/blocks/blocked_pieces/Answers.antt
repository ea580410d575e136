use Rattle.msp_cut_sums.specs.Schedules.{blocked_piece}
use Rattle.msp_route.proofs.Turns.{turns_next}
use Rattle.msp_cut_sums.proofs.blocks.blocked_pieces.Goals as goal

pub loop-place-preserved : goal.loop-place-preserved
loop-place-preserved c = turns_next (blocked_piece c.args.machines c.args.time c.args.order.now) c.loop-place.place _ _ c.in_ok-put_in_slot.ensures c.loop-place.invariant
