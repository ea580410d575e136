use Rattle.std.proofs.Common.{◌≡◌}
use Rattle.msp_gen.specs.Draws.{draw_turns, draw_one}
use Rattle.msp_gen.specs.Generated.{draw_operation}
use Rattle.msp_gen.proofs.routes.route.Given as goal

abbrev pub invariant-loop-turn : goal.invariant-loop-turn
invariant-loop-turn l = draw_turns (λ _ before. draw_one (draw_operation l.fn.times l.fn.shared l.fn.machines before)) l._turn l.fn.draws.seed ≡ record { value = l.needs; seed = l.draws.seed }
