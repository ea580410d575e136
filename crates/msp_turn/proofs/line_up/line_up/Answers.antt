-- The line keeps the limits, and its cost is taken.
use Rattle.std.proofs.Common.{rules, sym, subst}
use Rattle.std.specs.Int.{w128}
use Rattle.std.proofs.lemmas.Int.{to_z-of_z}
use Rattle.msp_pieces.specs.Feasible.{Feasible}
use Rattle.msp_pieces.specs.Within.{Within}
use Rattle.msp_turn.proofs.LineLimits.{few_jobs, within_jobs, short_needs, line_within, as_line}
use Rattle.msp_turn.proofs.line_up.line_up.Goals as goal

pub pieces_back_to_back-requires-clause-few : goal.pieces_back_to_back-requires-clause-few
pieces_back_to_back-requires-clause-few c = few_jobs c.args.inst.now c.requires.machine c.requires.inner c.args.unit c.requires.unit c.args.order.now c.requires.all

pub pieces_back_to_back-requires-clause-jobs : goal.pieces_back_to_back-requires-clause-jobs
pieces_back_to_back-requires-clause-jobs c = within_jobs c.args.inst.now c.requires.machine c.requires.inner c.args.unit c.requires.unit c.args.order.now c.requires.all

pub pieces_back_to_back-requires-clause-needs : goal.pieces_back_to_back-requires-clause-needs
pieces_back_to_back-requires-clause-needs c = short_needs c.args.inst.now c.requires.machine c.requires.inner

pub cost-cost-requires-clause-within : goal.cost-cost-requires-clause-within
cost-cost-requires-clause-within c =
    subst (Within c.args.inst.now) (sym (as_line c.args.inst.now c.args.unit c.args.order.now _ _ (to_z-of_z w128 _ (search rules)) c.in_ok-pieces.ensures))
    (line_within c.args.inst.now c.requires.machine c.requires.inner c.args.unit c.requires.unit c.args.order.now c.requires.all c.requires.feasible)

pub cost-cost-requires-clause-feasible : goal.cost-cost-requires-clause-feasible
cost-cost-requires-clause-feasible c =
    subst (Feasible c.args.inst.now) (sym (as_line c.args.inst.now c.args.unit c.args.order.now _ _ (to_z-of_z w128 _ (search rules)) c.in_ok-pieces.ensures)) c.requires.feasible

pub returns : goal.returns
returns c = record { schedule = as_line c.args.inst.now c.args.unit c.args.order.now _ _ (to_z-of_z w128 _ (search rules)) c.in_ok-pieces.ensures; cost = c.cost-cost.ensures.value }
