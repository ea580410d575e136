use Rattle.std.proofs.Common.{◌+◌, ◌-◌, ap₂, ◌∙◌, arith}
use Rattle.std.proofs.lemmas.List.{get_or_read}
use Rattle.msp_stairs.specs.Steps.{no_stair}
use Rattle.msp_stairs.proofs.Laying.{between, cut_made}
use Rattle.msp_stairs.proofs.climb.lay_cut.Goals as goal

pub end_of_rest-end-requires : goal.end_of_rest-end-requires
end_of_rest-end-requires c = between c.args.task.now c.args.stairs.now.items
    c.args.place c.index.result.now c.index-2.result.now c.requires.high c.requires.falls c.requires.some c.requires.inside c.index.ensures c.index-2.ensures

pub returns : goal.returns
returns c =
    let old = c.args.stairs.now.items in
    let place = c.args.place in
    let high = get_or_read old (place - 1) c.index.result.now (omega (arith, c.requires.some, c.requires.inside)) c.index.ensures no_stair in
    let low = get_or_read old place c.index-2.result.now c.requires.inside c.index-2.ensures no_stair in
    cut_made c.args.task.now old c.run.new.stairs.items c.run-2.new.stairs.items c.bring_to_front.new.stairs.items
    c.args.pieces.now c.run.new.pieces c.run-2.new.pieces (place - 1) place c.end_of_rest-end.result
    (omega (arith, c.requires.some)) c.requires.high c.requires.inside
    (c.end_of_rest-end.ensures ∙ ap₂ (λ x y. x.end + y.end + c.args.task.now.time) low high)
    c.in_ok-run.ensures.stairs c.in_ok-run.ensures.pieces c.in_ok-run-2.ensures.stairs c.in_ok-run-2.ensures.pieces c.in_ok-bring_to_front.ensures
