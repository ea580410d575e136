use Rattle.std.proofs.Common.{◌≡◌}
use Rattle.msp_gen.specs.Draws.{draw_turns, draw_one, draw_from_one}
use Rattle.msp_gen.proofs.instance.speeds.Given as goal

abbrev pub invariant-loop-turn : goal.invariant-loop-turn
invariant-loop-turn l = draw_turns (λ _ _. draw_one (draw_from_one 4)) l._turn l.fn.draws.seed ≡ record { value = l.speeds; seed = l.draws.seed }
