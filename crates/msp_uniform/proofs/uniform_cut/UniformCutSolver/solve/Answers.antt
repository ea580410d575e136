use Rattle.msp_uniform.proofs.UniformAnswer.{IsBestCut-from_plan}
use Rattle.msp_uniform.proofs.uniform_cut.UniformCutSolver.solve.Goals as goal

pub best_solution-requires-clause-best : goal.best_solution-requires-clause-best
best_solution-requires-clause-best c = (IsBestCut-from_plan c.args.inst.now c.requires.class c.requires.inner _ c.in_ok-schedule.ensures).best

pub returns-clause-cost : goal.returns-clause-cost
returns-clause-cost c = (IsBestCut-from_plan c.args.inst.now c.requires.class c.requires.inner _ c.in_ok-schedule.ensures).cost _ c.best_solution.ensures.cost
