-- The pieces are those of the schedule that is read from its end.
use Rattle.std.proofs.Common.{pos, ◌≤ℤ◌, arith, sym, subst}
use Rattle.std.proofs.lemmas.Grind.{common_steps}
use Rattle.msp_pieces.specs.Feasible.{Feasible}
use Rattle.msp_pieces.specs.Within.{Within}
use Rattle.msp_turn.specs.laws.ReversalLaw.{turning-natural}
use Rattle.msp_turn.proofs.reversal.reversed.Goals as goal

pub reverse_all-requires-clause-last : goal.reverse_all-requires-clause-last
reverse_all-requires-clause-last c = subst (λ x. pos 0 ≤ℤ x) (sym (grind (arith, common_steps))) (turning-natural c.args.inst.now c.args.solution.schedule)

pub cost-cost-requires-clause-within : goal.cost-cost-requires-clause-within
cost-cost-requires-clause-within c = subst (Within c.args.inst.now) (sym (grind (arith, common_steps))) c.requires.reversible.within

pub cost-cost-requires-clause-feasible : goal.cost-cost-requires-clause-feasible
cost-cost-requires-clause-feasible c = subst (Feasible c.args.inst.now) (sym (grind (arith, common_steps))) c.requires.reversible.feasible

pub returns-clause-schedule : goal.returns-clause-schedule
returns-clause-schedule c = grind (arith, common_steps)

pub returns-clause-solution : goal.returns-clause-solution
returns-clause-solution c = record { feasible = subst (Feasible c.args.inst.now) (sym (grind (arith, common_steps))) c.requires.reversible.feasible; cost = c.cost-cost.ensures.value }
