-- The goals of `take_number` that are proved by lemmas.
use Rattle.std.proofs.Common.{arith, ap, sym, ◌∙◌, ◌+◌, length-append}
use Rattle.std.proofs.lemmas.Result.{err_from_is_err_and}
use Rattle.msp_grammar.specs.lines.Steps.{place_of}
use Rattle.msp_cert_text.proofs.ListedLaws.{numbers_goes, numbers_stop, numbers_break}
use Rattle.msp_cert_text.proofs.listed.take_number.Goals as goal

pub returns-in_err-field-clause-leads : goal.returns-in_err-field-clause-leads
returns-in_err-field-clause-leads g c =
    let p = err_from_is_err_and c.from_residual.result c.from_residual.ensures.1 in
    rw (p.1, p.2) (numbers_stop g.T.Listed.reads c.args.word.now c.args.before c.args.numbers.now c.args.names.now c.args.k (c.args.before + c.args.k) c.unwrap-name.result
    (place_of c.args.lines.now) c.in_err-field.field-0.0 (sym c.unwrap-name.ensures ∙ c.get.ensures) (omega (arith, c.requires.place)) c.in_err-field.ensures)

pub returns-in_err-number-clause-leads : goal.returns-in_err-number-clause-leads
returns-in_err-number-clause-leads g c =
    let p = err_from_is_err_and c.from_residual-in_err-number.result c.from_residual-in_err-number.ensures.1 in
    rw (p.1, p.2) (numbers_break g.T.Listed.reads c.args.word.now c.args.before c.args.numbers.now c.args.names.now c.args.k (c.args.before + c.args.k) c.unwrap-name.result
    (place_of c.args.lines.now) (place_of c.named_line_at.new.lines) c.in_ok-field.field.now c.in_err-number.field-0.0 (sym c.unwrap-name.ensures ∙ c.get.ensures)
    (omega (arith, c.requires.place)) c.in_ok-field.ensures c.in_err-number.ensures)

pub returns-clause-leads : goal.returns-clause-leads
returns-clause-leads g c =
    rw c.in_ok-put.ensures.put (numbers_goes g.T.Listed.reads c.args.word.now c.args.before c.args.numbers.now c.args.names.now c.args.k (c.args.before + c.args.k) c.unwrap-name.result
    (place_of c.args.lines.now) (place_of c.named_line_at.new.lines) c.in_ok-field.field.now c.in_ok-number.number (sym c.unwrap-name.ensures ∙ c.get.ensures)
    (omega (arith, c.requires.place)) c.in_ok-field.ensures (sym c.in_ok-number.ensures))

pub returns-clause-place : goal.returns-clause-place
returns-clause-place g c = rw c.in_ok-put.ensures.put (length-append c.args.numbers.now _ ∙ ap (λ n. n + 1) c.requires.place)
