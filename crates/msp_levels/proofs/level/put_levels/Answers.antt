use Rattle.std.proofs.Common.{◌-◌, refl, arith}
use Rattle.msp_levels.proofs.JobLevels.{IsLeveled-end, job_below, placed}
use Rattle.msp_levels.proofs.level.put_levels.Goals as goal

pub bounds-levels-job : goal.bounds-levels-job
bounds-levels-job c = job_below c.args.inst.now c.args.order.now c.requires.sequence
    (c.loop-place.place - 1) c.requires.inner.conditions.few (omega (arith, c.loop-place-test.true, c.loop-place.invariant.inside))

pub loop-place-preserved : goal.loop-place-preserved
loop-place-preserved c =
    placed c.args.inst.now c.args.order.now c.requires.sequence c.requires.forward c.loop-place.levels c.loop-place.place _ c.level_over.result
    c.as_slice-arcs.result.now c.as_slice-arcs.ensures c.requires.inner.conditions.few c.loop-place-test.true refl c.level_over.ensures c.loop-place.invariant

pub returns-clause-levels : goal.returns-clause-levels
returns-clause-levels c = IsLeveled-end c.args.inst.now c.args.order.now c.loop-place.levels c.loop-place.place (omega (arith, c.loop-place-test.false)) c.requires.sequence c.loop-place.invariant
