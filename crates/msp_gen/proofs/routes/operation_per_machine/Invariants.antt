use Rattle.std.proofs.Common.{◌≡◌}
use Rattle.msp_gen.specs.Draws.{draw_turns, draw_one}
use Rattle.msp_gen.specs.Generated.{draw_need, draw_shop_time}
use Rattle.msp_gen.proofs.routes.operation_per_machine.Given as goal

abbrev pub invariant-loop-machine : goal.invariant-loop-machine
invariant-loop-machine l = draw_turns (λ machine _. draw_one (draw_need machine (draw_shop_time l.fn.times l.fn.shared machine))) l.machine l.fn.draws.seed
    ≡ record { value = l.needs; seed = l.draws.seed }
