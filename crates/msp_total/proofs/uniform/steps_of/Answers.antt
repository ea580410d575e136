use Rattle.std.proofs.Common.{◌/◌, [], ◌∷◌, ◌++◌, ap, sym, ◌∙◌, slice_index_or}
use Rattle.std.proofs.lemmas.List.{map_more}
use Rattle.msp_total.proofs.uniform.steps_of.Goals as goal

pub loop-speed-preserved : goal.loop-speed-preserved
loop-speed-preserved c =
    let k = c.loop-speed.speed-index in
    c.in_ok-push.ensures.items ∙ ap (λ l. l ++ c.args.unit / slice_index_or c.args.speeds.now k 0 ∷ []) c.loop-speed.invariant
    ∙ sym (map_more (λ s. c.args.unit / s) c.args.speeds.now k 0 c.loop-speed-test.true)
