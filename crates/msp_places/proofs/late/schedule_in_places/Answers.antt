use Rattle.std.proofs.Common.{◌≤◌, ◌∙◌, All, subst, sym, rules}
use Rattle.std.proofs.lemmas.Int.{to_z-of_z}
use Rattle.std.specs.Int.{w128}
use Rattle.msp_class.specs.declared.sizes.TheConstants.{GREATEST_SPEED}
use Rattle.msp_instance.specs.Conditions.{HasSmallMultiple}
use Rattle.msp_places.proofs.AssignedFacts.{IsByDues-from}
use Rattle.msp_places.proofs.MostSteps.{common_read}
use Rattle.msp_places.proofs.AssignedBest.{IsBestAnswer-assigned}
use Rattle.msp_places.proofs.late.schedule_in_places.Goals as goal

pub multiple_of_all-unit-requires-clause-speeds : goal.multiple_of_all-unit-requires-clause-speeds
multiple_of_all-unit-requires-clause-speeds c =
    subst (All (λ s. (1 ≤ s) × (s ≤ GREATEST_SPEED))) (sym c.as_slice.ensures) (IsByDues-from c.args.inst.now c.requires.class c.requires.inner).is.speeds.1

pub multiple_of_all-unit-requires-clause-small : goal.multiple_of_all-unit-requires-clause-small
multiple_of_all-unit-requires-clause-small c = subst HasSmallMultiple (sym c.as_slice.ensures) c.requires.inner.conditions.multiple

pub best_solution-requires-clause-best : goal.best_solution-requires-clause-best
best_solution-requires-clause-best c =
    IsBestAnswer-assigned c.args.inst.now c.requires.class c.requires.inner _ _ _ (common_read c.args.inst.now _ _ c.as_slice.ensures c.multiple_of_all-unit.ensures.least)
    c.multiple_of_all-unit.ensures.small (to_z-of_z w128 _ (search rules) ∙ c.from.ensures) c.in_ok-pieces.ensures

pub least_pieces-requires-clause-unit : goal.least_pieces-requires-clause-unit
least_pieces-requires-clause-unit c = common_read c.args.inst.now _ _ c.as_slice.ensures c.multiple_of_all-unit.ensures.least
