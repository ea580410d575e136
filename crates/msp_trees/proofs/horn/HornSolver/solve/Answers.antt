-- The jobs behind the start, back to back, are a best answer.
use Rattle.msp_route.proofs.BackToBackAnswer.{IsBestRow, best_in_order, jobs_in_order}
use Rattle.msp_trees.specs.Horn.{IsHornOrder}
use Rattle.msp_trees.proofs.Picks.{behind_first, horn_made}
use Rattle.msp_trees.proofs.horn.HornSolver.solve.Goals as goal
use Rattle.msp_trees.proofs.horn.HornSolver.solve.Goals.{After-as_slice}

made : (c : After-as_slice) → IsHornOrder c.args.inst.now (behind_first c.as_slice.result.now) × IsBestRow c.args.inst.now (behind_first c.as_slice.result.now)
made c = horn_made c.args.inst.now c.requires.class c.requires.inner c.in_ok-jobs.jobs c.as_slice.result.now c.in_ok-jobs.ensures.joined c.as_slice.ensures c.in_ok-jobs.ensures.join

pub solution_in_order-requires-clause-short : goal.solution_in_order-requires-clause-short
solution_in_order-requires-clause-short c = (made (goal.at.solution_in_order-requires-clause-short c).After-as_slice).1.short

pub solution_in_order-requires-clause-feasible : goal.solution_in_order-requires-clause-feasible
solution_in_order-requires-clause-feasible c = (made (goal.at.solution_in_order-requires-clause-feasible c).After-as_slice).1.best.feasible

pub returns-clause-order : goal.returns-clause-order
returns-clause-order c = jobs_in_order (IsHornOrder c.args.inst.now) c.args.inst.now (behind_first c.as_slice.result.now) c.solution_in_order.result
    (made (goal.at.returns-clause-order c).After-as_slice).0 c.solution_in_order.ensures.schedule

pub returns-clause-best : goal.returns-clause-best
returns-clause-best c = best_in_order c.args.inst.now (behind_first c.as_slice.result.now) c.solution_in_order.result
    (made (goal.at.returns-clause-best c).After-as_slice).1.best c.solution_in_order.ensures.schedule c.solution_in_order.ensures.cost
