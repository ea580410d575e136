-- The goals of `job_or_other` that are proved by lemmas.
use Rattle.std.proofs.Common.{◌≡◌, false, bytes_eq, codes, rules}
use Rattle.msp_grammar.specs.lines.Steps.{place_of, fields_after}
use Rattle.msp_file.proofs.instances.LineSteps.{other_line}
use Rattle.msp_file.proofs.instance.draft.job_or_other.Goals as goal

pub returns-in-Ok-true-clause-after : goal.returns-in-Ok-true-clause-after
returns-in-Ok-true-clause-after c =
    let says = rw c.in-Ok-true.field-0-test at c.in-Ok-true.ensures.after in
    let other : bytes_eq c.args.word.now (codes "job") ≡ false = search rules in
    let frame = c.args.frame in
    let place = place_of c.args.lines.now in
    other_line frame.class frame.machines frame.time c.args.at c.has_order.result c.args.draft.now c.args.word.now (fields_after c.args.fields.now) place _ c.has_order.ensures other (says place)

pub returns-in-Ok-false-clause-after : goal.returns-in-Ok-false-clause-after
returns-in-Ok-false-clause-after c =
    let says = rw c.in-Ok-false.field-0-test at c.in-Ok-false.ensures.after in
    let other : bytes_eq c.args.word.now (codes "job") ≡ false = search rules in
    let frame = c.args.frame in
    let place = place_of c.args.lines.now in
    other_line frame.class frame.machines frame.time c.args.at c.has_order.result c.args.draft.now c.args.word.now (fields_after c.args.fields.now) place _ c.has_order.ensures other (says place)
