-- The schedule of the rule is an answer.
use Rattle.std.proofs.Common.{pos, sym, subst}
use Rattle.msp_levels.specs.Levels.{IsLevelSchedule}
use Rattle.msp_levels.specs.Sums.{EndsMost}
use Rattle.msp_levels.proofs.SumBest.{IsSumAnswer, IsSumAnswer-from}
use Rattle.msp_levels.proofs.sums.LevelsSumSolver.solve.Goals as goal
use Rattle.msp_levels.proofs.sums.LevelsSumSolver.solve.Goals.{In_ok-pieces}

made : (c : In_ok-pieces) → IsSumAnswer c.args.inst.now (record { unit = pos 1; pieces = c.in_ok-pieces.pieces })
made c = IsSumAnswer-from c.args.inst.now c.requires.class c.requires.inner c.in_ok-pieces.pieces c.in_ok-pieces.ensures

pub returns-clause-most : goal.returns-clause-most
returns-clause-most c = subst (EndsMost c.args.inst.now) (sym c.best_solution.ensures.schedule) (made (goal.at.returns-clause-most c).In_ok-pieces).most

pub best_solution-requires-clause-best : goal.best_solution-requires-clause-best
best_solution-requires-clause-best c = (made (goal.at.best_solution-requires-clause-best c).In_ok-pieces).best

pub returns-clause-pieces : goal.returns-clause-pieces
returns-clause-pieces c = subst (IsLevelSchedule c.args.inst.now) (sym c.best_solution.ensures.schedule) c.in_ok-pieces.ensures

pub returns-clause-cost : goal.returns-clause-cost
returns-clause-cost c = (made (goal.at.returns-clause-cost c).In_ok-pieces).cost c.best_solution.result.cost c.best_solution.ensures.cost
