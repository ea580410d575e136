use Rattle.msp_schedule.proofs.judging.OccupancyFacts.{AreOccupancies-next}
use Rattle.msp_schedule.proofs.occupancies.occupancies_of.Goals as goal

pub loop-at-preserved : goal.loop-at-preserved
loop-at-preserved c = rw c.in_ok-push.ensures.items (AreOccupancies-next _ _ _ _ _ c.loop-at.invariant c.occupancy_of-occupancy.ensures)
