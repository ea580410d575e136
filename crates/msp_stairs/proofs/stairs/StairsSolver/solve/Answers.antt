use Rattle.std.proofs.Common.{subst}
use Rattle.std.specs.Prelude.{MatchOption}
use Rattle.msp_stairs.specs.Steps.{IsTooLate, IsClimbed}
use Rattle.msp_stairs.proofs.Tasks.{held}
use Rattle.msp_stairs.specs.Bounds.{IsReady}
use Rattle.msp_stairs.proofs.Soonest.{IsSolved, IsReady-shown, never_climbed, solved}
use Rattle.msp_stairs.proofs.stairs.StairsSolver.solve.Goals as goal
use Rattle.msp_stairs.proofs.stairs.StairsSolver.solve.Goals.{After-as_slice-2, After-from-unit}

ready : (c : After-as_slice-2) → IsReady c.args.inst.now c.as_slice-2.result.now
ready c = IsReady-shown c.args.inst.now c.in_ok-order.order.items c.as_slice-2.result.now c.requires.class c.requires.inner
    c.in_ok-order.ensures.all c.in_ok-order.ensures.sorted c.as_slice-2.ensures.value

made : (c : After-from-unit) → IsSolved c.args.inst.now (record { unit = held c.from-unit.result; pieces = c.in-Some.pieces }) (held c.in_ok-limits.limits.late) (held c.from-unit.result)
made c =
    let i = c.args.inst.now in
    let order = c.as_slice-2.result.now in
    let limits = c.in_ok-limits.limits in
    solved i order (IsReady-shown i c.in_ok-order.order.items order c.requires.class c.requires.inner c.in_ok-order.ensures.all
    c.in_ok-order.ensures.sorted c.as_slice-2.ensures.value) limits c.in_ok-limits.ensures c.in-Some.pieces
    (subst (λ r. MatchOption r (IsTooLate i order limits) (IsClimbed i order limits)) c.in-Some.is c.in_ok-pieces.ensures) c.from-unit.result c.from-unit.ensures

pub least_limits-requires : goal.least_limits-requires
least_limits-requires c = record {
  ready =
      IsReady-shown c.args.inst.now c.in_ok-order.order.items c.as_slice.result.now c.requires.class c.requires.inner
      c.in_ok-order.ensures.all c.in_ok-order.ensures.sorted c.as_slice.ensures.value;
}

pub climbed-requires-clause-ready : goal.climbed-requires-clause-ready
climbed-requires-clause-ready c = ready (goal.at.climbed-requires-clause-ready c).After-as_slice-2

pub climbed-requires-clause-late : goal.climbed-requires-clause-late
climbed-requires-clause-late c = c.in_ok-limits.ensures.small

pub unreachable-requires : goal.unreachable-requires
unreachable-requires c =
    let i = c.args.inst.now in
    let order = c.as_slice-2.result.now in
    let limits = c.in_ok-limits.limits in
    never_climbed i order (ready (goal.at.unreachable-requires c).After-as_slice-2)
    limits c.in_ok-limits.ensures (subst (λ r. MatchOption r (IsTooLate i order limits) (IsClimbed i order limits)) c.in-None.is c.in_ok-pieces.ensures)

pub returns-clause-best : goal.returns-clause-best
returns-clause-best c = let s = made (goal.at.returns-clause-best c).After-from-unit in record { best = s.best; cost = s.over }

pub returns-clause-bounds : goal.returns-clause-bounds
returns-clause-bounds c = (made (goal.at.returns-clause-bounds c).After-from-unit).answer

pub returns-clause-cost : goal.returns-clause-cost
returns-clause-cost c = (made (goal.at.returns-clause-cost c).After-from-unit).cost

pub returns-clause-pieces : goal.returns-clause-pieces
returns-clause-pieces c = (made (goal.at.returns-clause-pieces c).After-from-unit).cuts

pub returns-clause-ends : goal.returns-clause-ends
returns-clause-ends c = (made (goal.at.returns-clause-ends c).After-from-unit).ends
