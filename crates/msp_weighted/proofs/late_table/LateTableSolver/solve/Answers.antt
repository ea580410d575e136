use Rattle.std.proofs.Common.{sym, subst}
use Rattle.msp_route.proofs.BackToBackAnswer.{IsBestRow, best_in_order, jobs_in_order}
use Rattle.msp_route.proofs.PlainJobs.{fair_needs, short_needs}
use Rattle.msp_weighted.specs.Late.{IsLateOrder}
use Rattle.msp_weighted.specs.Values.{IsTableOrder}
use Rattle.msp_weighted.proofs.LateCost.{IsLateInstance-from_class}
use Rattle.msp_weighted.proofs.LateBest.{late_row, late_order}
use Rattle.msp_weighted.proofs.late_table.LateTableSolver.solve.Goals as goal
use Rattle.msp_weighted.proofs.late_table.LateTableSolver.solve.Goals.{After-deref}

in_order : (c : After-deref) → IsTableOrder c.args.inst.now c.deref.result.now
in_order c = subst (IsTableOrder c.args.inst.now) (sym c.deref.ensures.value) c.in_ok-order.ensures

made : (c : After-deref) → IsBestRow c.args.inst.now c.deref.result.now
made c = late_row c.args.inst.now (IsLateInstance-from_class c.args.inst.now c.requires.class c.requires.inner) c.deref.result.now (in_order c)

pub late_order-requires-clause-few : goal.late_order-requires-clause-few
late_order-requires-clause-few c = c.requires.inner.conditions.few

pub late_order-requires-clause-short : goal.late_order-requires-clause-short
late_order-requires-clause-short c = short_needs c.args.inst.now (IsLateInstance-from_class c.args.inst.now c.requires.class c.requires.inner).free.plain

pub late_order-requires-clause-light : goal.late_order-requires-clause-light
late_order-requires-clause-light c = (IsLateInstance-from_class c.args.inst.now c.requires.class c.requires.inner).light

pub late_order-requires-clause-needs : goal.late_order-requires-clause-needs
late_order-requires-clause-needs c = fair_needs c.args.inst.now (IsLateInstance-from_class c.args.inst.now c.requires.class c.requires.inner).free.plain

pub solution_in_order-requires-clause-short : goal.solution_in_order-requires-clause-short
solution_in_order-requires-clause-short c = (made c).short

pub solution_in_order-requires-clause-feasible : goal.solution_in_order-requires-clause-feasible
solution_in_order-requires-clause-feasible c = (made c).best.feasible

pub returns-clause-order : goal.returns-clause-order
returns-clause-order c = jobs_in_order (IsLateOrder c.args.inst.now) c.args.inst.now c.deref.result.now c.solution_in_order.result
    (late_order c.args.inst.now (IsLateInstance-from_class c.args.inst.now c.requires.class c.requires.inner) _
    (in_order (goal.at.returns-clause-order c).After-deref)) c.solution_in_order.ensures.schedule

pub returns-clause-best : goal.returns-clause-best
returns-clause-best c =
    best_in_order c.args.inst.now c.deref.result.now c.solution_in_order.result
    (made (goal.at.returns-clause-best c).After-deref).best c.solution_in_order.ensures.schedule c.solution_in_order.ensures.cost
