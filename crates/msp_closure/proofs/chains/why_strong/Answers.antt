-- The goals of `why_strong` that are proved by lemmas.
use Rattle.msp_table.specs.Rows.{keeps_size}
use Rattle.msp_closure.proofs.WayLemmas.{none_to}
use Rattle.msp_closure.proofs.chains.why_strong.Goals as goal

pub returns-clause-none : goal.returns-clause-none
returns-clause-none c = none_to keeps_size _ _ c.args.c c.way.result c.in_ok-strong.ensures c.way.ensures
