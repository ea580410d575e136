-- The goals of `status_of` that are proved by lemmas.
use Rattle.std.proofs.Common.{IsNone, refl, sym, subst, ◌∙◌}
use Rattle.msp_top.specs.Checks.{holds, fails}
use Rattle.msp_top.proofs.WordLemmas.{differ}
use Rattle.msp_top.proofs.CheckAnswers.{status_broken}
use Rattle.msp_top.proofs.checks.status_of.Goals as goal

pub returns-in-Some : goal.returns-in-Some
returns-in-Some c = status_broken _ _ c.args.broken c.in-Some.field-0 c.in-Some.is c.requires.decided

pub returns-then-states_its_cost : goal.returns-then-states_its_cost
returns-then-states_its_cost c = holds (c.requires.decided.0 (subst IsNone (sym c.in-None.is) refl)) (c.states_its_cost.ensures.0 c.if-states_its_cost.true)

pub returns-else-states_its_cost : goal.returns-else-states_its_cost
returns-else-states_its_cost c = fails (λ h. differ (sym c.if-states_its_cost.false ∙ c.states_its_cost.ensures.1 h.1))
