use Rattle.std.proofs.Common.{◌-◌, refl, length, subst, arith}
use Rattle.msp_instance.specs.Paths.{leads}
use Rattle.msp_due.specs.Steps.{AreLoweredFrom}
use Rattle.msp_due.proofs.LoweredSlots.{AreLoweredFrom-next, AreLoweredFrom-end, place_inside, low_small}
use Rattle.msp_due.proofs.lowering.lower_all.Goals as goal

pub lowered-requires-clause-inside : goal.lowered-requires-clause-inside
lowered-requires-clause-inside c = place_inside c.args.inst.now c.args.order.now c.args.slots.now c.loop-place.slots c.loop-place.place c.requires.sequence c.loop-place-test.true
    c.loop-place.invariant.inside c.loop-place.invariant.whole c.requires.whole

pub bounds-slots-job : goal.bounds-slots-job
bounds-slots-job c = place_inside c.args.inst.now c.args.order.now c.args.slots.now c.loop-place.slots c.loop-place.place c.requires.sequence c.loop-place-test.true
    c.loop-place.invariant.inside c.loop-place.invariant.whole c.requires.whole

pub lowered-requires-clause-small : goal.lowered-requires-clause-small
lowered-requires-clause-small c k d l =
    omega (arith, low_small (length c.args.inst.now.jobs) c.args.slots.now c.loop-place.slots c.requires.small c.loop-place.invariant.whole c.loop-place.invariant.most k d l, c.requires.few)

pub loop-place-preserved : goal.loop-place-preserved
loop-place-preserved c =
    let i = c.args.inst.now in
    AreLoweredFrom-next i c.args.order.now c.requires.sequence c.requires.forward (length i.jobs) refl
    (leads c.args.paths.now) c.requires.paths i.machines c.args.slots.now c.loop-place.slots c.requires.whole (c.loop-place.place - 1) _ c.lowered.result
    (subst (λ p. AreLoweredFrom i.machines (leads c.args.paths.now) c.args.order.now c.args.slots.now p c.loop-place.slots) (omega (arith, c.loop-place-test.true)) c.loop-place.invariant)
    refl c.lowered.ensures

pub returns-clause-small : goal.returns-clause-small
returns-clause-small c = low_small (length c.args.inst.now.jobs) c.args.slots.now c.loop-place.slots c.requires.small c.loop-place.invariant.whole c.loop-place.invariant.most

pub returns-clause-lowered : goal.returns-clause-lowered
returns-clause-lowered c = AreLoweredFrom-end c.args.inst.now c.args.inst.now.machines (leads c.args.paths.now)
    c.args.order.now c.args.slots.now c.loop-place.slots c.loop-place.place (omega (arith, c.loop-place-test.false)) c.requires.sequence c.requires.whole c.loop-place.invariant
