use Rattle.std.proofs.Common.{sym, subst}
use Rattle.msp_route.proofs.BackToBackAnswer.{IsBestRow, best_in_order, jobs_in_order}
use Rattle.msp_route.proofs.PlainJobs.{fair_needs}
use Rattle.msp_single.specs.Smith.{IsSmithOrder}
use Rattle.msp_single.proofs.SmithBest.{is_smith_instance, IsBestRow-smith}
use Rattle.msp_single.proofs.smith.SmithSolver.solve.Goals as goal
use Rattle.msp_single.proofs.smith.SmithSolver.solve.Goals.{After-deref}

in_order : (c : After-deref) → IsSmithOrder c.args.inst.now c.deref.result.now
in_order c = subst (IsSmithOrder c.args.inst.now) (sym c.deref.ensures.value) c.in_ok-order.ensures

made : (c : After-deref) → IsBestRow c.args.inst.now c.deref.result.now
made c = IsBestRow-smith c.args.inst.now c.requires.class c.requires.inner c.deref.result.now (in_order c)

pub smith_order-requires-clause-few : goal.smith_order-requires-clause-few
smith_order-requires-clause-few c = c.requires.inner.conditions.few

pub smith_order-requires-clause-needs : goal.smith_order-requires-clause-needs
smith_order-requires-clause-needs c = fair_needs c.args.inst.now (is_smith_instance c.args.inst.now c.requires.class c.requires.inner).plain

pub solution_in_order-requires-clause-short : goal.solution_in_order-requires-clause-short
solution_in_order-requires-clause-short c = (made c).short

pub solution_in_order-requires-clause-feasible : goal.solution_in_order-requires-clause-feasible
solution_in_order-requires-clause-feasible c = (made c).best.feasible

pub returns-clause-order : goal.returns-clause-order
returns-clause-order c =
    jobs_in_order (IsSmithOrder c.args.inst.now) c.args.inst.now c.deref.result.now c.solution_in_order.result
    (in_order (goal.at.returns-clause-order c).After-deref) c.solution_in_order.ensures.schedule

pub returns-clause-best : goal.returns-clause-best
returns-clause-best c =
    best_in_order c.args.inst.now c.deref.result.now c.solution_in_order.result
    (made (goal.at.returns-clause-best c).After-deref).best c.solution_in_order.ensures.schedule c.solution_in_order.ensures.cost
