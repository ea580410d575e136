use Rattle.std.proofs.Common.{[], ◌∷◌, sym, ◌∙◌}
use Rattle.std.proofs.lemmas.List.{append-nil}
use Rattle.msp_gen.specs.Generated.{draw_arcs}
use Rattle.msp_gen.proofs.Turns.{no_turn, next_drawn}
use Rattle.msp_gen.proofs.precedence.arcs.Goals as goal
use Rattle.msp_gen.proofs.precedence.arcs.Goals.{in-Some+in_ok-put, in_default}

pub loop-turn-init : goal.loop-turn-init
loop-turn-init c = no_turn (draw_arcs c.args.order c.args.jobs) _ _ c.new-arcs.ensures

pub loop-turn-preserved : goal.loop-turn-preserved
loop-turn-preserved c =
    elim c.match-arc_of_turn.branch [
      | in-Some+in_ok-put w ↦ next_drawn (draw_arcs c.args.order c.args.jobs) _ _ _ _ _ _ _ (w.in-Some.arc ∷ [])
          c.as_slice.ensures (w.arcs-is ∙ w.in_ok-put.ensures.put) c.loop-turn.invariant w.in-Some.ensures.value c.arc_of_turn.ensures.seed
      | in_default w ↦ next_drawn (draw_arcs c.args.order c.args.jobs) _ _ _ _ _ _ _ []
          c.as_slice.ensures (w.arcs-is ∙ sym (append-nil c.loop-turn.arcs)) c.loop-turn.invariant w.in_default.ensures.value c.arc_of_turn.ensures.seed
    ]
