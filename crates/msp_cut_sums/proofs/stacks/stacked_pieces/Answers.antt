use Rattle.std.proofs.Common.{◌%◌, [], ◌∷◌, ◌++◌, ap, ◌∙◌}
use Rattle.msp_cut_sums.specs.Sums.{at}
use Rattle.msp_cut_sums.specs.Schedules.{part, stacked_piece}
use Rattle.msp_route.proofs.Turns.{turns_next}
use Rattle.msp_cut_sums.proofs.stacks.stacked_pieces.Goals as goal

pub loop-place-preserved : goal.loop-place-preserved
loop-place-preserved c =
    let k = c.loop-place.place in
    let order = c.args.order.now in
    let ends = c.args.ends.now in
    turns_next (stacked_piece c.args.machines order ends) k c.loop-place.pieces c.put.new.pieces
    (c.in_ok-put.ensures ∙ ap (λ x. c.loop-place.pieces ++ part (at order k) 0 (k % c.args.machines) x (at ends k) ∷ []) c.end_at.ensures) c.loop-place.invariant
