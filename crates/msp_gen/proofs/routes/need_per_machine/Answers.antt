use Rattle.std.proofs.Common.{ap}
use Rattle.msp_gen.specs.Draws.{draw_one}
use Rattle.msp_gen.specs.Generated.{draw_need, draw_some_time}
use Rattle.msp_gen.proofs.Turns.{no_turn, next_one}
use Rattle.msp_gen.proofs.routes.need_per_machine.Goals as goal

pub loop-machine-init : goal.loop-machine-init
loop-machine-init c = no_turn (λ machine _. draw_one (draw_need machine (draw_some_time c.args.times c.args.shared))) _ _ c.new-needs.ensures

pub loop-machine-preserved : goal.loop-machine-preserved
loop-machine-preserved c =
    next_one (λ machine _. draw_need machine (draw_some_time c.args.times c.args.shared)) _ _ _ _ _ _ _ c.in_ok-put.ensures.put c.loop-machine.invariant
    (ap (λ t. record { machine = c.loop-machine.machine; time = t }) c.some_time-time.ensures.value) c.some_time-time.ensures.seed
