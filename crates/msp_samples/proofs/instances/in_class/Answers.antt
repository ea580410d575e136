use Rattle.std.proofs.Common.{rules}
use Rattle.msp_instance.proofs.Limits.{Inner-from_class}
use Rattle.msp_samples.proofs.instances.in_class.Goals as goal

pub returns-in-Ok-clause-class : goal.returns-in-Ok-clause-class
returns-in-Ok-clause-class c = record { conditions = c.check.ensures.ok.0 (search rules); acyclic = (c.in-Ok.field-0, c.in-Ok.ensures.sequence, c.in-Ok.ensures.forward) }

pub returns-in-Ok-clause-inner : goal.returns-in-Ok-clause-inner
returns-in-Ok-clause-inner c = Inner-from_class _ (record { conditions = c.check.ensures.ok.0 (search rules); acyclic = (c.in-Ok.field-0, c.in-Ok.ensures.sequence, c.in-Ok.ensures.forward) })
