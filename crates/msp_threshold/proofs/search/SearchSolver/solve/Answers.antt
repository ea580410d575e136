use Rattle.std.proofs.Common.{◌*ℤ◌, sym, ap₂, subst, ◌∙◌, rules}
use Rattle.std.specs.Int.{w64, w128}
use Rattle.std.proofs.lemmas.Int.{to_z-of_z}
use Rattle.msp_instance.specs.Conditions.{LiesWithin}
use Rattle.msp_route.specs.Halving.{IsLeastBound}
use Rattle.msp_threshold.specs.Squeezed.{greatest_bound, CanMeet}
use Rattle.msp_threshold.proofs.search.SearchSolver.solve.Goals as goal

pub schedule_within-requires-clause-least : goal.schedule_within-requires-clause-least
schedule_within-requires-clause-least g c = subst (IsLeastBound (CanMeet c.args.inst.now)) (sym (to_z-of_z w64 c.in_ok-bound.bound (search rules))) c.in_ok-bound.ensures.least

pub schedule_within-requires-clause-bound : goal.schedule_within-requires-clause-bound
schedule_within-requires-clause-bound g c = subst (LiesWithin greatest_bound) (sym (to_z-of_z w64 c.in_ok-bound.bound (search rules))) c.in_ok-bound.ensures.small

pub returns-clause-best : goal.returns-clause-best
returns-clause-best g c = record {
  best = c.in_ok-schedule.ensures.best;
  cost = ap₂ (λ x y. x *ℤ y) (to_z-of_z w128 c.from.result (search rules) ∙ c.from.ensures ∙ sym c.in_ok-schedule.ensures.cost) c.in_ok-schedule.ensures.unit;
}
