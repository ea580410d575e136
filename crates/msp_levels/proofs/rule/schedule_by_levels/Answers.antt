-- The schedule of the rule is an answer.
use Rattle.std.proofs.Common.{pos, sym, subst}
use Rattle.msp_levels.specs.Levels.{IsLevelSchedule}
use Rattle.msp_pieces.specs.Settled.{IsSettled}
use Rattle.msp_levels.proofs.HuBest.{IsHuAnswer, IsHuAnswer-from}
use Rattle.msp_levels.proofs.rule.schedule_by_levels.Goals as goal
use Rattle.msp_levels.proofs.rule.schedule_by_levels.Goals.{In_ok-pieces}

made : (c : In_ok-pieces) → IsHuAnswer c.args.inst.now (record { unit = pos 1; pieces = c.in_ok-pieces.pieces })
made c = IsHuAnswer-from c.args.inst.now c.requires.class c.requires.inner c.in_ok-pieces.pieces c.in_ok-pieces.ensures

pub best_solution-requires-clause-best : goal.best_solution-requires-clause-best
best_solution-requires-clause-best c = (made (goal.at.best_solution-requires-clause-best c).In_ok-pieces).best

pub returns-clause-cost : goal.returns-clause-cost
returns-clause-cost c = (made (goal.at.returns-clause-cost c).In_ok-pieces).cost c.best_solution.result.cost c.best_solution.ensures.cost

pub returns-clause-settled : goal.returns-clause-settled
returns-clause-settled c = subst IsSettled (sym c.best_solution.ensures.schedule) (made (goal.at.returns-clause-settled c).In_ok-pieces).settled

pub returns-clause-pieces : goal.returns-clause-pieces
returns-clause-pieces c = subst (IsLevelSchedule c.args.inst.now) (sym c.best_solution.ensures.schedule) c.in_ok-pieces.ensures
