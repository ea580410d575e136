-- The goals of `find` that are proved by lemmas.
use Rattle.std.proofs.Common.{◌+◌, ◌==◌, ◌∙◌, option_map, ap, sym, arith}
use Rattle.std.proofs.lemmas.Iterator.Adapters.{position_from-zero}
use Rattle.msp_grammar.proofs.reading.FirstSeparator.{position_further}
use Rattle.msp_grammar.proofs.lines.line.find.Goals as goal

pub runs-init : goal.runs-init
runs-init c = (position_from-zero (λ x. x == c.args.separator) c.args.bytes.now, omega arith)

pub returns-in-Some-find_by_one : goal.returns-in-Some-find_by_one
returns-in-Some-find_by_one c =
    let further = position_further (λ x. x == c.args.separator) c.runs.rest.now c.runs.at in
    sym (c.runs.invariant.0 ∙ further ∙ ap (option_map (λ k. c.runs.at + k)) (sym c.find_by_one.ensures ∙ c.in-Some-find_by_one.is))

pub returns-in-None : goal.returns-in-None
returns-in-None c =
    let further = position_further (λ x. x == c.args.separator) c.runs.rest.now c.runs.at in
    sym (c.runs.invariant.0 ∙ further ∙ ap (option_map (λ k. c.runs.at + k)) (sym c.find_by_one.ensures ∙ c.in-None.is))
