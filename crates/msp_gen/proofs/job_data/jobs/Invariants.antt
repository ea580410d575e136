use Rattle.std.proofs.Common.{◌≡◌}
use Rattle.msp_gen.specs.Draws.{draw_turns, draw_one}
use Rattle.msp_gen.specs.Generated.{draw_job}
use Rattle.msp_gen.proofs.job_data.jobs.Given as goal

abbrev pub invariant-loop-turn : goal.invariant-loop-turn
invariant-loop-turn l = draw_turns (λ _ _. draw_one (draw_job l.fn.class l.fn.machines l.fn.shared)) l._turn l.fn.draws.seed ≡ record { value = l.jobs; seed = l.draws.seed }
