use Rattle.std.proofs.Common.{sym, ap}
use Rattle.msp_gen.specs.Draws.{draw_one}
use Rattle.msp_gen.specs.Generated.{draw_job}
use Rattle.msp_gen.proofs.Turns.{no_turn, next_one}
use Rattle.msp_gen.proofs.job_data.jobs.Goals as goal

pub loop-turn-init : goal.loop-turn-init
loop-turn-init c = no_turn (λ _ _. draw_one (draw_job c.args.class c.args.machines c.args.shared)) _ _ c.new-jobs.ensures

pub loop-turn-preserved : goal.loop-turn-preserved
loop-turn-preserved c =
    next_one (λ _ _. draw_job c.args.class c.args.machines c.args.shared) _ _ _ _ _ _ _ c.in_ok-put.ensures.put c.loop-turn.invariant
    (ap (λ d. d.value) (sym c.in_ok-next.ensures)) (ap (λ d. d.seed) (sym c.in_ok-next.ensures))
