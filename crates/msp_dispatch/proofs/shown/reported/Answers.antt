use Rattle.msp_instance.proofs.Limits.{Inner-from_class}
use Rattle.msp_dispatch.proofs.evidence.Fractions.{same_best}
use Rattle.msp_dispatch.proofs.evidence.Certified.{Within-answer}
use Rattle.msp_dispatch.proofs.shown.reported.Goals as goal

pub settled-requires-clause-inner : goal.settled-requires-clause-inner
settled-requires-clause-inner c = Inner-from_class c.args.inst.now c.requires.class

pub settled-requires-clause-within : goal.settled-requires-clause-within
settled-requires-clause-within c = Within-answer c.args.inst.now c.args.solution.schedule c.requires.class c.requires.best.best.feasible c.requires.bounds

pub returns-clause-same : goal.returns-clause-same
returns-clause-same c = same_best c.args.inst.now c.args.solution c.settled.result c.requires.best c.settled.ensures.best
