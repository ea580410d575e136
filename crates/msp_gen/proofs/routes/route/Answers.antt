use Rattle.msp_gen.specs.Draws.{draw_one}
use Rattle.msp_gen.specs.Generated.{draw_operation}
use Rattle.msp_gen.proofs.Turns.{no_turn, next_one}
use Rattle.msp_gen.proofs.Parts.{operation_value, operation_seed}
use Rattle.msp_gen.proofs.routes.route.Goals as goal

pub loop-turn-init : goal.loop-turn-init
loop-turn-init c = no_turn (λ _ before. draw_one (draw_operation c.args.times c.args.shared c.args.machines before)) _ _ c.new-needs.ensures

pub loop-turn-preserved : goal.loop-turn-preserved
loop-turn-preserved c =
    next_one (λ _ before. draw_operation c.args.times c.args.shared c.args.machines before) _ _ _ _ _ _ _ c.in_ok-put.ensures.put c.loop-turn.invariant
    (operation_value c.args.times c.args.shared c.args.machines c.loop-turn.needs _ _ _ _ c.next_machine-machine.ensures.value c.next_machine-machine.ensures.seed c.some_time-time.ensures.value)
    (operation_seed c.args.times c.args.shared c.args.machines c.loop-turn.needs _ _ _ c.next_machine-machine.ensures.seed c.some_time-time.ensures.seed)
