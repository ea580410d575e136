-- The goals of `why_pseudo` that are proved by lemmas.
use Rattle.std.proofs.Common.{◌∙◌}
use Rattle.msp_table.specs.Rows.{keeps_size}
use Rattle.msp_closure.proofs.WayLemmas.{none_from}
use Rattle.msp_closure.proofs.chains.why_pseudo.Goals as goal

pub returns-clause-none : goal.returns-clause-none
returns-clause-none c = none_from keeps_size _ _ _ c.args.c c.way.result (c.deref.ensures.value ∙ c.in_ok-pseudo.ensures) c.in_ok-only.ensures
    c.way.ensures
