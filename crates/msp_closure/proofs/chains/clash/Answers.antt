-- The goals of `clash` that are proved by lemmas.
use Rattle.std.proofs.Common.{◌∙◌}
use Rattle.msp_table.specs.Chains.{every_row}
use Rattle.msp_closure.proofs.WayLemmas.{none_any}
use Rattle.msp_closure.proofs.chains.clash.Goals as goal

pub returns-clause-none : goal.returns-clause-none
returns-clause-none c = none_any every_row _ _ _ _ c.way.result (c.deref.ensures.value ∙ c.in_ok-easy.ensures) c.in_ok-hard.ensures c.way.ensures
