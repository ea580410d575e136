use Rattle.std.proofs.Common.{[], ◌∷◌, ◌++◌, ap, ◌∙◌}
use Rattle.msp_slots.specs.Earliest.{start_in}
use Rattle.msp_assign.specs.Prices.{column_of}
use Rattle.msp_total.specs.LineSteps.{line_piece}
use Rattle.msp_route.proofs.Turns.{turns_next}
use Rattle.msp_total.proofs.unit_lines.laid_out.Goals as goal

pub loop-turn-preserved : goal.loop-turn-preserved
loop-turn-preserved c =
    turns_next (line_piece c.args.machines (λ j. start_in c.args.slots.now (column_of c.args.column.now j))) c.loop-turn.turn c.loop-turn.pieces c.put.new.self
    (c.in_ok-put.ensures.put ∙ ap (λ p. c.loop-turn.pieces ++ p ∷ []) c.piece_of-next.ensures) c.loop-turn.invariant
