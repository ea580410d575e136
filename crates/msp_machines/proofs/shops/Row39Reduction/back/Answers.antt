-- The lower schedule with the numbers of its machines is the upper one.
use Rattle.std.proofs.Common.{refl}
use Rattle.msp_machines.specs.laws.Renumbered.{brought_renumbered}
use Rattle.msp_machines.specs.laws.Routes.{renumbered_39}
use Rattle.msp_machines.proofs.shops.Row39Reduction.back.Goals as goal

pub returns : goal.returns
returns c = brought_renumbered (renumbered_39 c.args._inst.now c.requires.inner c.requires.applies) (record { changes = refl; moments = refl; dates = refl })
    c.args.lower c.numbered_by_machine.result c.numbered_by_machine.ensures c.requires.solution c.requires.bounded
