use Rattle.msp_gen.specs.Draws.{draw_one, draw_from_one}
use Rattle.msp_gen.proofs.Turns.{no_turn, next_one}
use Rattle.msp_gen.proofs.instance.speeds.Goals as goal

pub loop-turn-init : goal.loop-turn-init
loop-turn-init c = no_turn (λ _ _. draw_one (draw_from_one 4)) _ _ c.new-speeds.ensures

pub loop-turn-preserved : goal.loop-turn-preserved
loop-turn-preserved c = next_one (λ _ _. draw_from_one 4) _ _ _ _ _ _ _ c.in_ok-put.ensures.put c.loop-turn.invariant c.draw_from_one.ensures.value c.draw_from_one.ensures.seed
