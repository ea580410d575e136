use Rattle.std.proofs.Common.{◌≡◌}
use Rattle.msp_gen.specs.Draws.{draw_turns}
use Rattle.msp_gen.specs.Generated.{draw_arcs}
use Rattle.msp_gen.proofs.precedence.arcs.Given as goal

abbrev pub invariant-loop-turn : goal.invariant-loop-turn
invariant-loop-turn l = draw_turns (draw_arcs l.fn.order l.fn.jobs) l.turn l.fn.draws.seed ≡ record { value = l.arcs; seed = l.draws.seed }
