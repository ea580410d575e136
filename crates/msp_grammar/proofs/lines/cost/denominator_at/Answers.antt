-- The goals of `denominator_at` that are proved by lemmas.
use Rattle.std.proofs.Common.{◌≤◌, length, rules}
use Rattle.std.proofs.lemmas.List.{take_rest}
use Rattle.msp_grammar.proofs.reading.CostReading.{no_denominator}
use Rattle.msp_grammar.proofs.lines.cost.denominator_at.Goals as goal

pub returns-then-not-is_empty-clause-read : goal.returns-then-not-is_empty-clause-read
returns-then-not-is_empty-clause-read c =
    let left : 1 ≤ length c.split_first.result.1.now = search rules in
    no_denominator c.args.at c.args.rest.now _ _ c.split_first.result.1.now c.in-len1-up.len_at_least (take_rest c.args.rest.now 1) c.split_first.ensures.parts left
