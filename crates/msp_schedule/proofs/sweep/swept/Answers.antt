use Rattle.msp_schedule.proofs.judging.SweepFacts.{swept_none, swept_first}
use Rattle.msp_schedule.proofs.sweep.swept.Goals as goal

pub returns-clause-none : goal.returns-clause-none
returns-clause-none c = swept_none c.args.inst.now c.args.s.now c.decided.result c.decided.ensures

pub returns-clause-first : goal.returns-clause-first
returns-clause-first c = swept_first c.args.inst.now c.args.s.now c.decided.result c.decided.ensures
