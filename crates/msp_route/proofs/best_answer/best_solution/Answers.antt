-- The schedule is within the limits, so that its cost can be taken.
use Rattle.msp_route.proofs.Owed.{answer_is_within}
use Rattle.msp_route.proofs.best_answer.best_solution.Goals as goal

pub cost-cost-requires-clause-within : goal.cost-cost-requires-clause-within
cost-cost-requires-clause-within c = answer_is_within c.args.inst.now c.args.schedule c.requires.best.best.feasible c.requires.best.answer

pub cost-cost-requires-clause-feasible : goal.cost-cost-requires-clause-feasible
cost-cost-requires-clause-feasible c = c.requires.best.best.feasible

pub returns-clause-best : goal.returns-clause-best
returns-clause-best c = record { best = c.requires.best.best; cost = c.cost-cost.ensures.value }

pub returns-clause-bounds : goal.returns-clause-bounds
returns-clause-bounds c = c.requires.best.answer
