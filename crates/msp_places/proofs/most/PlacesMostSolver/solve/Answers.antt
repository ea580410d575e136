use Rattle.std.proofs.Common.{◌≤◌, ◌∙◌, All, subst, sym, rules}
use Rattle.std.proofs.lemmas.Int.{to_z-of_z}
use Rattle.std.specs.Int.{w128}
use Rattle.msp_class.specs.declared.sizes.TheConstants.{GREATEST_SPEED}
use Rattle.msp_class.specs.declared.class.Crit.TheVariants.{Fmax}
use Rattle.msp_instance.specs.Conditions.{HasSmallMultiple}
use Rattle.msp_places.specs.Most.{IsByCost}
use Rattle.msp_places.proofs.PlaceFacts.{IsPlacesInstance-from}
use Rattle.msp_places.proofs.MostSteps.{common_read, IsMostAnswer-from}
use Rattle.msp_places.proofs.most.PlacesMostSolver.solve.Goals as goal

pub multiple_of_all-unit-requires-clause-speeds : goal.multiple_of_all-unit-requires-clause-speeds
multiple_of_all-unit-requires-clause-speeds c =
    subst (All (λ s. (1 ≤ s) × (s ≤ GREATEST_SPEED))) (sym c.as_slice.ensures) (IsPlacesInstance-from Fmax c.args.inst.now c.requires.class c.requires.inner).speeds.1

pub multiple_of_all-unit-requires-clause-small : goal.multiple_of_all-unit-requires-clause-small
multiple_of_all-unit-requires-clause-small c = subst HasSmallMultiple (sym c.as_slice.ensures) c.requires.inner.conditions.multiple

pub best_solution-requires-clause-best : goal.best_solution-requires-clause-best
best_solution-requires-clause-best c =
    (IsMostAnswer-from c.args.inst.now c.requires.class c.requires.inner _ _ _ (common_read c.args.inst.now _ _ c.as_slice.ensures c.multiple_of_all-unit.ensures.least)
    c.multiple_of_all-unit.ensures.small (to_z-of_z w128 _ (search rules) ∙ c.from.ensures) c.in_ok-pieces.ensures).best

pub returns-clause-order : goal.returns-clause-order
returns-clause-order c = subst (IsByCost c.args.inst.now) (sym c.best_solution.ensures.schedule)
    (IsMostAnswer-from c.args.inst.now c.requires.class c.requires.inner _ _ _ (common_read c.args.inst.now _ _ c.as_slice.ensures c.multiple_of_all-unit.ensures.least)
    c.multiple_of_all-unit.ensures.small (to_z-of_z w128 _ (search rules) ∙ c.from.ensures) c.in_ok-pieces.ensures).by_cost

pub pieces_by_cost-requires-clause-unit : goal.pieces_by_cost-requires-clause-unit
pieces_by_cost-requires-clause-unit c = common_read c.args.inst.now _ _ c.as_slice.ensures c.multiple_of_all-unit.ensures.least
