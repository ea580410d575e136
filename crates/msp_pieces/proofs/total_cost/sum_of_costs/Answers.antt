use Rattle.std.proofs.Common.{arith, rules}
use Rattle.std.proofs.lemmas.Int.{ints, to_z-of_z}
use Rattle.std.specs.Int.{w128}
use Rattle.msp_pieces.proofs.costs.Costs.{SumsTo-step, SumsTo-all, passed_moment, passed_cost}
use Rattle.msp_pieces.proofs.total_cost.sum_of_costs.Goals as goal

pub job_cost_at-sum-requires-clause-moment : goal.job_cost_at-sum-requires-clause-moment
job_cost_at-sum-requires-clause-moment c = passed_moment _ _ (to_z-of_z w128 _ (search rules)) (c.requires.moments c.loop-k.k c.loop-k-test.true)

pub job_cost_at-sum-requires-clause-small : goal.job_cost_at-sum-requires-clause-small
job_cost_at-sum-requires-clause-small c =
    passed_cost _ _ c.args.jobs.now c.loop-k.k c.index-jobs-k.result (to_z-of_z w128 c.args.unit c.ranges.unit) c.loop-k-test.true c.index-jobs-k.is c.requires.small

pub loop-k-preserved : goal.loop-k-preserved
loop-k-preserved c =
    let so_far = c.loop-k.invariant.size in
    let small = c.job_cost_at-sum.ensures.size in
    SumsTo-step _ _ _ c.args.jobs.now c.loop-k.k c.index-jobs-k.result _ _ _ _ c.loop-k-test.true c.index-jobs-k.is
    (to_z-of_z w128 _ (search rules)) c.job_cost_at-sum.ensures.value small (omega (arith, ints)) c.loop-k.invariant

pub returns-clause-value : goal.returns-clause-value
returns-clause-value c = SumsTo-all _ c.args.unit _ _ c.args.jobs.now c.loop-k.k _ (to_z-of_z w128 c.args.unit c.ranges.unit) c.loop-k-test.false c.loop-k.invariant
