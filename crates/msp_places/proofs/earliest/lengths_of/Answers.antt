use Rattle.std.proofs.Common.{◌*◌, ◌/◌, ◌++◌, ◌∷◌, [], get_or, sym, ap, ◌∙◌}
use Rattle.std.proofs.lemmas.List.{map_more}
use Rattle.msp_places.proofs.earliest.lengths_of.Goals as goal

pub loop-speed-init : goal.loop-speed-init
loop-speed-init c = c.new-lengths.ensures.items

pub loop-speed-preserved : goal.loop-speed-preserved
loop-speed-preserved c =
    c.in_ok-push.ensures.items
    ∙ ap (λ xs. xs ++ c.args.time * (c.args.unit / get_or c.args.speeds.now c.loop-speed.speed-index 0) ∷ []) c.loop-speed.invariant
    ∙ sym (map_more (λ s. c.args.time * (c.args.unit / s)) c.args.speeds.now c.loop-speed.speed-index 0 c.loop-speed-test.true)
