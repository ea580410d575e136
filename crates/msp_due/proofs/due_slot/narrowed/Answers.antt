use Rattle.msp_due.proofs.DueSlots.{IsBetween-halved, middle_between}
use Rattle.msp_due.proofs.due_slot.narrowed.Goals as goal

pub returns-clause-between : goal.returns-clause-between
returns-clause-between c =
    let b = c.args.between in
    let inside = middle_between b.met b.beyond c.requires.wide in
    IsBetween-halved c.args.inst.now c.args.bound.now c.args.job b c.halved.result _ c.requires.between inside.0 inside.1 c.is_met.result c.is_met.ensures c.halved.ensures.met c.halved.ensures.beyond
