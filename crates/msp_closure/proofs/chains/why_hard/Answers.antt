-- The goals of `why_hard` that are proved by lemmas.
use Rattle.msp_table.specs.Chains.{every_row}
use Rattle.msp_closure.proofs.WayLemmas.{none_to}
use Rattle.msp_closure.proofs.chains.why_hard.Goals as goal

pub returns-clause-none : goal.returns-clause-none
returns-clause-none c = none_to every_row _ _ c.args.c c.way.result c.in_ok-hard.ensures c.way.ensures
