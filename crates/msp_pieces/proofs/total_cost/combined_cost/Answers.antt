use Rattle.std.proofs.Common.{ℤ, pos, cond, ap, ◌∙◌, sym, subst, rules, All, slice_index_or}
use Rattle.std.specs.Int.{w128}
use Rattle.std.proofs.lemmas.Int.{to_z-of_z}
use Rattle.msp_instance.specs.Conditions.{LiesWithin}
use Rattle.msp_pieces.specs.Cost.{job_costs, greatest}
use Rattle.msp_pieces.specs.Feasible.{total}
use Rattle.msp_pieces.specs.Within.{IsUnit, HasSmallCost, greatest_total}
use Rattle.msp_pieces.proofs.total_cost.combined_cost.Goals as goal

pub greatest_of_costs-requires-clause-unit : goal.greatest_of_costs-requires-clause-unit
greatest_of_costs-requires-clause-unit c = subst IsUnit (sym (to_z-of_z w128 c.args.unit c.ranges.unit)) c.requires.unit

pub greatest_of_costs-requires-clause-small : goal.greatest_of_costs-requires-clause-small
greatest_of_costs-requires-clause-small c = subst (λ u. All (HasSmallCost u) c.args.jobs.now) (sym (to_z-of_z w128 c.args.unit c.ranges.unit)) c.requires.small

pub sum_of_costs-requires-clause-unit : goal.sum_of_costs-requires-clause-unit
sum_of_costs-requires-clause-unit c = subst IsUnit (sym (to_z-of_z w128 c.args.unit c.ranges.unit)) c.requires.unit

pub sum_of_costs-requires-clause-small : goal.sum_of_costs-requires-clause-small
sum_of_costs-requires-clause-small c = subst (λ u. All (HasSmallCost u) c.args.jobs.now) (sym (to_z-of_z w128 c.args.unit c.ranges.unit)) c.requires.small

pub returns-then-is_greatest-clause-size : goal.returns-then-is_greatest-clause-size
returns-then-is_greatest-clause-size c = subst (LiesWithin greatest_total) (sym (to_z-of_z w128 c.greatest_of_costs.result (search rules))) c.greatest_of_costs.ensures.size

pub returns-else-is_greatest-clause-size : goal.returns-else-is_greatest-clause-size
returns-else-is_greatest-clause-size c = subst (LiesWithin greatest_total) (sym (to_z-of_z w128 c.sum_of_costs.result (search rules))) c.sum_of_costs.ensures.size

pub returns-then-is_greatest-clause-value : goal.returns-then-is_greatest-clause-value
returns-then-is_greatest-clause-value c =
    let costs = λ (u : ℤ). job_costs c.args.crit u (λ k. slice_index_or c.args.ends.now k (pos 0)) 0 c.args.jobs.now in
    to_z-of_z w128 c.greatest_of_costs.result (search rules) ∙ c.greatest_of_costs.ensures.value ∙ ap (λ u. greatest (costs u)) (to_z-of_z w128 c.args.unit c.ranges.unit)
    ∙ ap (λ b. cond b (greatest (costs c.args.unit)) (total (costs c.args.unit))) (sym c.if-is_greatest.true ∙ c.is_greatest.ensures)

pub returns-else-is_greatest-clause-value : goal.returns-else-is_greatest-clause-value
returns-else-is_greatest-clause-value c =
    let costs = λ (u : ℤ). job_costs c.args.crit u (λ k. slice_index_or c.args.ends.now k (pos 0)) 0 c.args.jobs.now in
    to_z-of_z w128 c.sum_of_costs.result (search rules) ∙ c.sum_of_costs.ensures.value ∙ ap (λ u. total (costs u)) (to_z-of_z w128 c.args.unit c.ranges.unit)
    ∙ ap (λ b. cond b (greatest (costs c.args.unit)) (total (costs c.args.unit))) (sym c.if-is_greatest.false ∙ c.is_greatest.ensures)
