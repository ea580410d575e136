use Rattle.msp_schedule.proofs.judging.FirstBreaks.{decided, named}
use Rattle.msp_schedule.proofs.breaks.first_break.Goals as goal

pub returns-clause-none : goal.returns-clause-none
returns-clause-none c = decided c.args.inst.now c.args.s.now c.found.result c.found.ensures

pub returns-clause-first : goal.returns-clause-first
returns-clause-first c = named c.args.inst.now c.args.s.now c.found.result c.found.ensures
