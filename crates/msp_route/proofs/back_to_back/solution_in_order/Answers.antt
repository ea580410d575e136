-- The row is within the limits, and its cost is taken.
use Rattle.std.proofs.Common.{sym, subst}
use Rattle.msp_pieces.specs.Feasible.{Feasible}
use Rattle.msp_pieces.specs.Settled.{IsSettled}
use Rattle.msp_pieces.specs.Within.{Within}
use Rattle.msp_route.specs.Bounds.{IsAnswer}
use Rattle.msp_route.proofs.Owed.{answer_is_within}
use Rattle.msp_route.proofs.BackToBackSteps.{as_schedule}
use Rattle.msp_route.proofs.BackToBackAnswer.{row_is_answer, row_is_settled}
use Rattle.msp_route.proofs.back_to_back.solution_in_order.Goals as goal

pub pieces_back_to_back-requires-clause-few : goal.pieces_back_to_back-requires-clause-few
pieces_back_to_back-requires-clause-few c = c.requires.short.few

pub pieces_back_to_back-requires-clause-jobs : goal.pieces_back_to_back-requires-clause-jobs
pieces_back_to_back-requires-clause-jobs c = c.requires.short.jobs

pub pieces_back_to_back-requires-clause-needs : goal.pieces_back_to_back-requires-clause-needs
pieces_back_to_back-requires-clause-needs c = c.requires.short.needs

pub cost-cost-requires-clause-within : goal.cost-cost-requires-clause-within
cost-cost-requires-clause-within c =
    let i = c.args.inst.now in
    let order = c.args.order.now in
    subst (Within i) (sym (as_schedule i _ order c.in_ok-pieces.ensures))
    (answer_is_within i _ c.requires.feasible (row_is_answer i order c.requires.short c.requires.feasible))

pub cost-cost-requires-clause-feasible : goal.cost-cost-requires-clause-feasible
cost-cost-requires-clause-feasible c = subst (Feasible c.args.inst.now) (sym (as_schedule c.args.inst.now _ c.args.order.now c.in_ok-pieces.ensures)) c.requires.feasible

pub returns-clause-schedule : goal.returns-clause-schedule
returns-clause-schedule c = as_schedule c.args.inst.now _ c.args.order.now c.in_ok-pieces.ensures

pub returns-clause-bounds : goal.returns-clause-bounds
returns-clause-bounds c = subst (IsAnswer c.args.inst.now)
    (sym (as_schedule c.args.inst.now _ c.args.order.now c.in_ok-pieces.ensures)) (row_is_answer c.args.inst.now c.args.order.now c.requires.short c.requires.feasible)

pub returns-clause-settled : goal.returns-clause-settled
returns-clause-settled c = subst IsSettled
    (sym (as_schedule c.args.inst.now _ c.args.order.now c.in_ok-pieces.ensures)) (row_is_settled c.args.inst.now c.args.order.now c.requires.short c.requires.feasible)
