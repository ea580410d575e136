-- The goals of `split_first` that are proved by lemmas.
use Rattle.msp_grammar.proofs.reading.Fields.{part_none}
use Rattle.msp_grammar.proofs.lines.line.split_first.Goals as goal

pub returns-in-None-clause-parts : goal.returns-in-None-clause-parts
returns-in-None-clause-parts c = rw (c.split_at-in-None.ensures.front, c.split_at-in-None.ensures.back) (part_none c.args.separator c.args.text.now c.in-None.ensures)
