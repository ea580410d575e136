-- The goals of `name_fault` that are proved by lemmas.
use Rattle.std.proofs.Common.{sym, ◌∙◌}
use Rattle.msp_grammar.proofs.reading.NameReading.{no_bytes, other_bytes, too_long}
use Rattle.msp_grammar.proofs.lines.name.name_fault.Goals as goal

pub returns-in-empty : goal.returns-in-empty
returns-in-empty c = no_bytes c.args.at c.args.bytes.now c.in-empty.len_below

pub returns-then-are_name_bytes : goal.returns-then-are_name_bytes
returns-then-are_name_bytes c = too_long c.args.at c.args.bytes.now c.in_default.len_at_least (sym c.are_name_bytes.ensures.value ∙ c.if-are_name_bytes.true) c.requires

pub returns-else-are_name_bytes : goal.returns-else-are_name_bytes
returns-else-are_name_bytes c = other_bytes c.args.at c.args.bytes.now c.in_default.len_at_least (sym c.are_name_bytes.ensures.value ∙ c.if-are_name_bytes.false)
