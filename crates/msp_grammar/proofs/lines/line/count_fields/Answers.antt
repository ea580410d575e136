-- The goals of `count_fields` that are proved by lemmas.
use Rattle.std.proofs.Common.{◌∙◌, ap, count_by, ◌==◌}
use Rattle.std.proofs.lemmas.List.{take_rest}
use Rattle.msp_grammar.proofs.reading.Fields.{fields_counted}
use Rattle.msp_grammar.proofs.lines.line.count_fields.Goals as goal

pub returns-in-len1-up-clause-value : goal.returns-in-len1-up-clause-value
returns-in-len1-up-clause-value c =
    fields_counted c.args.rest.now c.count_spaces.result c.in-len1-up.len_at_least (c.count_spaces.ensures.value ∙ ap (count_by (λ x. x == 32)) (take_rest c.args.rest.now 1))
