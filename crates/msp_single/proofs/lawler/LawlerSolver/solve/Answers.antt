use Rattle.std.proofs.Common.{sym, subst}
use Rattle.msp_route.proofs.BackToBackAnswer.{IsBestRow, best_in_order, jobs_in_order}
use Rattle.msp_single.specs.Lawler.{IsLawlerOrder}
use Rattle.msp_single.proofs.LawlerBest.{IsBestRow-lawler}
use Rattle.msp_single.proofs.lawler.LawlerSolver.solve.Goals as goal
use Rattle.msp_single.proofs.lawler.LawlerSolver.solve.Goals.{After-deref}

in_order : (c : After-deref) → IsLawlerOrder c.args.inst.now c.deref.result.now
in_order c = subst (IsLawlerOrder c.args.inst.now) (sym c.deref.ensures.value) c.in_ok-order.ensures

made : (c : After-deref) → IsBestRow c.args.inst.now c.deref.result.now
made c = IsBestRow-lawler c.args.inst.now c.requires.class c.requires.inner c.deref.result.now (in_order c)

pub solution_in_order-requires-clause-short : goal.solution_in_order-requires-clause-short
solution_in_order-requires-clause-short c = (made c).short

pub returns-clause-order : goal.returns-clause-order
returns-clause-order c =
    jobs_in_order (IsLawlerOrder c.args.inst.now) c.args.inst.now c.deref.result.now c.solution_in_order.result
    (in_order (goal.at.returns-clause-order c).After-deref) c.solution_in_order.ensures.schedule

pub solution_in_order-requires-clause-feasible : goal.solution_in_order-requires-clause-feasible
solution_in_order-requires-clause-feasible c = (made c).best.feasible

pub returns-clause-best : goal.returns-clause-best
returns-clause-best c =
    best_in_order c.args.inst.now c.deref.result.now c.solution_in_order.result
    (made (goal.at.returns-clause-best c).After-deref).best c.solution_in_order.ensures.schedule c.solution_in_order.ensures.cost
