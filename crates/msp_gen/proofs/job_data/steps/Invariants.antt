use Rattle.std.proofs.Common.{◌≡◌}
use Rattle.msp_gen.specs.Draws.{draw_turns, draw_one}
use Rattle.msp_gen.specs.Generated.{draw_step}
use Rattle.msp_gen.proofs.job_data.steps.Given as goal

abbrev pub invariant-loop-turn : goal.invariant-loop-turn
invariant-loop-turn l = draw_turns (λ _ _. draw_one draw_step) l._turn l.fn.draws.seed ≡ record { value = l.steps; seed = l.draws.seed }
