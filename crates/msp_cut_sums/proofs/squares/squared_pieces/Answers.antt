use Rattle.std.proofs.Common.{◌+◌, ◌*◌, ◌/◌, ◌%◌, [], ◌∷◌, ◌++◌, ap, ◌∙◌}
use Rattle.msp_cut_sums.specs.Sums.{at}
use Rattle.msp_cut_sums.specs.Schedules.{part}
use Rattle.msp_cut_sums.specs.Pieces.{squared_piece}
use Rattle.msp_route.proofs.Turns.{turns_next}
use Rattle.msp_cut_sums.proofs.squares.squared_pieces.Goals as goal

pub loop-turn-preserved : goal.loop-turn-preserved
loop-turn-preserved c =
    let x = c.loop-turn.turn in
    let m = c.args.machines in
    let order = c.args.order.now in
    turns_next (squared_piece m c.args.time order) x c.loop-turn.pieces c.put_in_slot.new.pieces
    (c.in_ok-put_in_slot.ensures ∙ ap (λ s. c.loop-turn.pieces ++ part (at order (x / m)) (x % m) (x % m) (s * c.args.time) ((s + 1) * c.args.time) ∷ []) c.slot_of-slot.ensures.value)
    c.loop-turn.invariant
