use Rattle.msp_schedule.proofs.judging.OccupancyFacts.{swept_none, swept_some}
use Rattle.msp_schedule.proofs.occupancies.swept_overlap.Goals as goal

pub returns-clause-none : goal.returns-clause-none
returns-clause-none c = λ e. swept_none c.args.lane c.args.pieces.now c.in_ok-occupancies.occupancies.items c.sort.new.occupancies.items
    c.deref.result.now c.in_ok-occupancies.ensures c.sort.ensures.permutation c.sort.ensures.sorted c.deref.ensures.value (c.first_meeting.ensures.none e)

pub returns-clause-some : goal.returns-clause-some
returns-clause-some c = swept_some c.args.lane c.args.pieces.now c.in_ok-occupancies.occupancies.items c.sort.new.occupancies.items c.deref.result.now
    c.first_meeting.result c.in_ok-occupancies.ensures c.sort.ensures.permutation c.sort.ensures.sorted c.deref.ensures.value c.first_meeting.ensures.some
