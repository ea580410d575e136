use Rattle.std.proofs.Common.{refl, arith}
use Rattle.msp_route.proofs.OneInstances.{IsOneInstance-from}
use Rattle.msp_route.proofs.Raising.{raised_next, entering_ends, AreHeads-end, job_inside}
use Rattle.msp_route.proofs.heads.put_heads.Goals as goal

pub raised-requires-clause-inside : goal.raised-requires-clause-inside
raised-requires-clause-inside c = job_inside c.args.inst.now c.args.order.now c.requires.sequence c.loop-place.place _ c.loop-place-test.true refl

pub raised-requires-clause-entering : goal.raised-requires-clause-entering
raised-requires-clause-entering c = entering_ends c.args.inst.now c.args.sorted.now c.requires.same c.requires.inner.conditions.ends _ _ c.entering_of-entering.ensures

pub bounds-heads-job : goal.bounds-heads-job
bounds-heads-job c = omega (arith, job_inside c.args.inst.now c.args.order.now c.requires.sequence c.loop-place.place _ c.loop-place-test.true refl, c.loop-place.invariant.each)

pub loop-place-preserved : goal.loop-place-preserved
loop-place-preserved c = raised_next c.args.inst.now (IsOneInstance-from c.args.inst.now c.requires.machine c.requires.inner)
    c.args.order.now c.requires.sequence c.requires.forward c.loop-place.heads c.loop-place.place _ c.raised.result c.loop-place-test.true
    refl c.args.sorted.now c.requires.same c.entering_of-entering.result.now c.entering_of-entering.ensures c.raised.ensures c.loop-place.invariant

pub returns : goal.returns
returns c = AreHeads-end c.args.inst.now (IsOneInstance-from c.args.inst.now c.requires.machine c.requires.inner) c.args.order.now c.loop-place.heads c.loop-place.place
    (omega (arith, c.loop-place-test.false)) c.requires.inner.conditions.ends c.requires.sequence c.loop-place.invariant
