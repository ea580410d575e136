-- The occupancies of the pieces so far.
use Rattle.msp_schedule.specs.Occupancies.{AreOccupancies}
use Rattle.msp_schedule.proofs.occupancies.occupancies_of.Given as goal

abbrev pub invariant-loop-at : goal.invariant-loop-at
invariant-loop-at l = AreOccupancies l.lane l.pieces l.at l.occupancies.items
