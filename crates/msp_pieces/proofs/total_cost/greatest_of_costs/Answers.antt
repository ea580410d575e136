use Rattle.std.proofs.Common.{arith, rules, subst, sym}
use Rattle.std.proofs.lemmas.Int.{to_z-of_z}
use Rattle.std.specs.Int.{w128}
use Rattle.msp_pieces.specs.Within.{IsUnit}
use Rattle.msp_pieces.proofs.costs.Costs.{ReachesTo-first, ReachesTo-step, ReachesTo-all, passed_moment, passed_cost, passed_max}
use Rattle.msp_pieces.proofs.total_cost.greatest_of_costs.Goals as goal

pub loop-k-init : goal.loop-k-init
loop-k-init c = (
  omega arith,
  ReachesTo-first _ _ _ c.args.jobs.now c.index-jobs-0.result _ c.job_cost_at-top.result _ c.requires.some c.index-jobs-0.is
      (to_z-of_z w128 _ (search rules)) c.job_cost_at-top.ensures.value c.job_cost_at-top.ensures.size (to_z-of_z w128 _ (search rules)),
)

pub job_cost_at-top-requires-clause-small : goal.job_cost_at-top-requires-clause-small
job_cost_at-top-requires-clause-small c =
    passed_cost _ _ c.args.jobs.now 0 c.index-jobs-0.result (to_z-of_z w128 c.args.unit c.ranges.unit) c.requires.some c.index-jobs-0.is c.requires.small

pub job_cost_at-requires-clause-small : goal.job_cost_at-requires-clause-small
job_cost_at-requires-clause-small c =
    passed_cost _ _ c.args.jobs.now c.loop-k.k c.index-jobs-k.result (to_z-of_z w128 c.args.unit c.ranges.unit) c.loop-k-test.true c.index-jobs-k.is c.requires.small

pub job_cost_at-requires-clause-moment : goal.job_cost_at-requires-clause-moment
job_cost_at-requires-clause-moment c =
    passed_moment _ _ (to_z-of_z w128 _ (search rules)) (c.requires.moments c.loop-k.k c.loop-k-test.true)

pub loop-k-preserved : goal.loop-k-preserved
loop-k-preserved c = (
  omega arith,
  ReachesTo-step _ _ _ c.args.jobs.now c.loop-k.k c.index-jobs-k.result _ _ c.job_cost_at.result _ c.loop-k.invariant.0 c.loop-k-test.true c.index-jobs-k.is
      (to_z-of_z w128 _ (search rules)) c.job_cost_at.ensures.value c.job_cost_at.ensures.size
      (passed_max _ c.max-top.result _ c.job_cost_at.result _ c.max-top.ensures.value (to_z-of_z w128 c.job_cost_at.result (search rules)) (to_z-of_z w128 c.max-top.result (search rules)))
      c.loop-k.invariant.1,
)

pub returns-clause-value : goal.returns-clause-value
returns-clause-value c = ReachesTo-all _ c.args.unit _ _ c.args.jobs.now c.loop-k.k _ (to_z-of_z w128 c.args.unit c.ranges.unit) c.loop-k-test.false c.loop-k.invariant.1

pub bounds-ends-0 : goal.bounds-ends-0
bounds-ends-0 c = omega (arith, c.requires.some, c.requires.each)

pub job_cost_at-top-requires-clause-unit : goal.job_cost_at-top-requires-clause-unit
job_cost_at-top-requires-clause-unit c = subst IsUnit (sym (to_z-of_z w128 c.args.unit c.ranges.unit)) c.requires.unit

pub job_cost_at-top-requires-clause-moment : goal.job_cost_at-top-requires-clause-moment
job_cost_at-top-requires-clause-moment c = passed_moment _ _ (to_z-of_z w128 _ (search rules)) (c.requires.moments 0 c.requires.some)

pub bounds-ends-k : goal.bounds-ends-k
bounds-ends-k c = omega (arith, c.requires.each, c.loop-k-test.true)

pub job_cost_at-requires-clause-unit : goal.job_cost_at-requires-clause-unit
job_cost_at-requires-clause-unit c = subst IsUnit (sym (to_z-of_z w128 c.args.unit c.ranges.unit)) c.requires.unit
