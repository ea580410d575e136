use Rattle.std.proofs.Common.{sym, subst}
use Rattle.msp_pieces.specs.Blocks.{IsBlockValue}
use Rattle.msp_blocks.proofs.Made.{IsBlockSchedule-made}
use Rattle.msp_blocks.proofs.blocks.schedule_by_blocks.Goals as goal

pub best_solution-solution-requires-clause-best : goal.best_solution-solution-requires-clause-best
best_solution-solution-requires-clause-best c =
    (IsBlockSchedule-made c.args.inst.now c.requires.machine c.requires.crit c.requires.inner c.requires.whole
    _ c.in_ok-heads.ensures.heads _ c.in_ok-heads.ensures.filling _ _ c.in_ok-heads.ensures.bound c.in_ok-heads.ensures.costs).best

pub returns-clause-value : goal.returns-clause-value
returns-clause-value c =
    let i = c.args.inst.now in
    let p = c.in_ok-heads.field-0 in
    let h = c.in_ok-heads.ensures in
    let made = IsBlockSchedule-made i c.requires.machine c.requires.crit c.requires.inner c.requires.whole p.heads.items h.heads p.pieces h.filling p.bound.jobs p.bound.cost h.bound h.costs in
    (p.bound.cost, subst (λ hs. IsBlockValue i hs p.bound.jobs p.bound.cost) (sym c.from_vec.ensures) h.bound.value, made.value)
