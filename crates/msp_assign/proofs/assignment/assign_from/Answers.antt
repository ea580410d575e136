use Rattle.msp_assign.proofs.Least.{IsLeast-from_prices, total_is}
use Rattle.msp_assign.proofs.assignment.assign_from.Goals as goal

pub returns-clause-least : goal.returns-clause-least
returns-clause-least g c = IsLeast-from_prices _ _ _ _ c.in_ok-assignment_of.ensures.assigned c.in_ok-assignment_of.ensures.priced

pub returns-clause-total : goal.returns-clause-total
returns-clause-total g c = total_is _ _ _ _ c.in_ok-assignment_of.ensures.assigned c.in_ok-assignment_of.ensures.priced
