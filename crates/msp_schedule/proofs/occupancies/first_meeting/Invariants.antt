-- No two neighbours so far meet.
use Rattle.msp_schedule.specs.Occupancies.{IsClearBelow}
use Rattle.msp_schedule.proofs.occupancies.first_meeting.Given as goal

abbrev pub invariant-loop-at : goal.invariant-loop-at
invariant-loop-at l = IsClearBelow l.occupancies l.at
