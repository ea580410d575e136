use Rattle.msp_gen.specs.Draws.{draw_one}
use Rattle.msp_gen.specs.Generated.{draw_step}
use Rattle.msp_gen.proofs.Turns.{no_turn, next_one}
use Rattle.msp_gen.proofs.Parts.{step_value, step_seed}
use Rattle.msp_gen.proofs.job_data.steps.Goals as goal

pub loop-turn-init : goal.loop-turn-init
loop-turn-init c = no_turn (λ _ _. draw_one draw_step) _ _ c.new-steps.ensures

pub loop-turn-preserved : goal.loop-turn-preserved
loop-turn-preserved c =
    next_one (λ _ _. draw_step) _ _ _ _ _ _ _ c.in_ok-put.ensures.put c.loop-turn.invariant
    (step_value _ _ _ _ c.draw-above.ensures.value c.draw-above.ensures.seed c.draw-add.ensures.value)
    (step_seed _ _ _ c.draw-above.ensures.seed c.draw-add.ensures.seed)
