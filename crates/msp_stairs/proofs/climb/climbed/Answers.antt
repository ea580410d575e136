use Rattle.std.proofs.Common.{sym, subst, subst₂, arith}
use Rattle.msp_stairs.specs.Steps.{Falls, ends_of, HasClimbed}
use Rattle.msp_stairs.proofs.Bounds.{HasClimbed-none, some_stairs, laid_on, laid_off}
use Rattle.msp_stairs.proofs.climb.climbed.Goals as goal

pub loop-place-init : goal.loop-place-init
loop-place-init c = subst₂ (HasClimbed c.args.inst.now c.args.order.now c.args.limits.now 0)
    (sym c.in_ok-stairs.ensures) (sym c.new-pieces.ensures) (HasClimbed-none c.args.inst.now c.args.order.now c.args.limits.now)

pub lay-requires-clause-some : goal.lay-requires-clause-some
lay-requires-clause-some c = some_stairs c.args.inst.now c.args.order.now c.requires.ready c.loop-place.invariant

pub returns-then-not-branch : goal.returns-then-not-branch
returns-then-not-branch c = laid_off c.args.inst.now c.args.order.now c.requires.ready c.args.limits.now c.loop-place.place c.loop-place.stairs.items c.lay.new.stairs.items
    c.loop-place.pieces c.lay.new.pieces c.loop-place-test.true c.loop-place.invariant c.task_at-task.result c.task_at-task.ensures c.in_ok-lay.field-0 c.if-not-branch.true c.in_ok-lay.ensures

pub loop-place-preserved : goal.loop-place-preserved
loop-place-preserved c = laid_on c.args.inst.now c.args.order.now c.requires.ready c.args.limits.now c.loop-place.place c.loop-place.stairs.items c.lay.new.stairs.items
    c.loop-place.pieces c.lay.new.pieces c.loop-place-test.true c.loop-place.invariant c.task_at-task.result c.task_at-task.ensures c.in_ok-lay.field-0 c.if-not-branch.false c.in_ok-lay.ensures

pub lay-requires-clause-falls : goal.lay-requires-clause-falls
lay-requires-clause-falls c = subst (λ t. Falls t.due (ends_of c.loop-place.stairs.items)) (sym c.task_at-task.ensures)
    (c.loop-place.invariant.falls c.loop-place.place (omega arith) c.loop-place-test.true)

pub returns : goal.returns
returns c = (
  c.loop-place.stairs.items,
  subst (λ k. HasClimbed c.args.inst.now c.args.order.now c.args.limits.now k c.loop-place.stairs.items c.loop-place.pieces)
      (omega (arith, c.loop-place-test.false, c.loop-place.auto.place-end)) c.loop-place.invariant,
)
