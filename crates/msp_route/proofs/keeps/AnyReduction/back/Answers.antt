-- The lower schedule serves.
use Rattle.msp_route.proofs.Brought.{brought}
use Rattle.msp_route.proofs.keeps.AnyReduction.back.Goals as goal

pub returns : goal.returns
returns g c = brought (g.met.T.KeepsSchedules.law.stay c.args._inst.now c.requires.inner c.requires.applies) g.met.T.KeepsSchedules.law.kept c.args.lower c.requires.solution c.requires.bounded
