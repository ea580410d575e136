-- The goals of `strong_clash` that are proved by lemmas.
use Rattle.std.proofs.Common.{◌∙◌}
use Rattle.msp_table.specs.Rows.{keeps_size}
use Rattle.msp_closure.proofs.WayLemmas.{none_any}
use Rattle.msp_closure.proofs.chains.strong_clash.Goals as goal

pub returns-clause-none : goal.returns-clause-none
returns-clause-none c = none_any keeps_size _ _ _ _ c.way.result (c.deref.ensures.value ∙ c.in_ok-pseudo.ensures) c.in_ok-strong.ensures c.way.ensures
