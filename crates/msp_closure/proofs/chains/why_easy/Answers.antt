-- The goals of `why_easy` that are proved by lemmas.
use Rattle.std.proofs.Common.{◌∙◌}
use Rattle.msp_table.specs.Chains.{every_row}
use Rattle.msp_closure.proofs.WayLemmas.{none_from}
use Rattle.msp_closure.proofs.chains.why_easy.Goals as goal

pub returns-clause-none : goal.returns-clause-none
returns-clause-none c = none_from every_row _ _ _ c.args.c c.way.result (c.deref.ensures.value ∙ c.in_ok-easy.ensures) c.in_ok-only.ensures
    c.way.ensures
