use Rattle.std.proofs.Common.{◌<◌, All, length, sym, subst, lt_of_lt_of_le, rules}
use Rattle.std.proofs.lemmas.Int.{to_z-of_z}
use Rattle.std.specs.Int.{w128}
use Rattle.msp_class.specs.declared.sizes.TheConstants.{MOST_JOBS}
use Rattle.msp_pieces.specs.Within.{IsMoment, IsUnit}
use Rattle.msp_pieces.proofs.costs.Small.{small_costs}
use Rattle.msp_pieces.proofs.costs.Whole.{passed_small, cost_is, over_unit}
use Rattle.msp_pieces.proofs.total_cost.cost.Goals as goal

pub ends_of-ends-requires-clause-jobs : goal.ends_of-ends-requires-clause-jobs
ends_of-ends-requires-clause-jobs c =
    subst (All (λ p. p.job < MOST_JOBS)) (sym c.as_slice.ensures) (λ k d t. lt_of_lt_of_le (c.requires.feasible.place k d t).job c.requires.inner.conditions.few)

pub ends_of-ends-requires-clause-moments : goal.ends_of-ends-requires-clause-moments
ends_of-ends-requires-clause-moments c = subst (All (λ p. IsMoment p.to)) (sym c.as_slice.ensures) (λ k d t. (c.requires.within.moments k d t).1)

pub combined_cost-num-requires-clause-unit : goal.combined_cost-num-requires-clause-unit
combined_cost-num-requires-clause-unit c = subst IsUnit (sym (to_z-of_z w128 c.args.s.now.unit (search rules))) c.requires.within.unit

pub combined_cost-num-requires-clause-moments : goal.combined_cost-num-requires-clause-moments
combined_cost-num-requires-clause-moments c = λ k t.
    let few : k < MOST_JOBS = lt_of_lt_of_le (subst (λ l. k < length l) c.as_slice-2.ensures t) c.requires.inner.conditions.few in
    subst IsMoment (sym (c.ends_of-ends.ensures.ends k few)) (c.ends_of-ends.ensures.moments k few)

pub combined_cost-num-requires-clause-small : goal.combined_cost-num-requires-clause-small
combined_cost-num-requires-clause-small c =
    passed_small _ _ _ _ (to_z-of_z w128 c.args.s.now.unit (search rules)) c.as_slice-2.ensures (small_costs c.args.inst.now c.args.s.now c.requires.inner c.requires.within)

pub returns-clause-value : goal.returns-clause-value
returns-clause-value c =
    let unit_is = to_z-of_z w128 c.args.s.now.unit (search rules) in
    over_unit c.combined_cost-num.result _ _ _ _ _ _ (to_z-of_z w128 c.combined_cost-num.result (search rules)) unit_is
    (cost_is c.args.inst.now c.args.s.now _ _ _ _ _ c.requires.inner.conditions.few unit_is c.as_slice.ensures c.as_slice-2.ensures c.ends_of-ends.ensures.ends c.combined_cost-num.ensures.value)
    c.lowest.ensures.same
