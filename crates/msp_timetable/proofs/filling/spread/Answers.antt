use Rattle.std.proofs.Common.{◌≡◌, length, ap, sym, subst, ◌∙◌, arith}
use Rattle.msp_assign.proofs.Lists.{whole_slice}
use Rattle.msp_timetable.specs.Square.{IsSpread}
use Rattle.msp_timetable.proofs.Fills.{IsSpreadBelow, IsSpreadBelow-start, IsSpreadBelow-next, IsSpread-end}
use Rattle.msp_timetable.proofs.filling.spread.Goals as goal

pub loop-row-init : goal.loop-row-init
loop-row-init c = subst (λ xs. IsSpreadBelow c.args.size c.args.matrix.now xs 0) (sym c.as_mut_slice-given.ensures.value)
    (IsSpreadBelow-start _ _ _ c.in_ok-list.ensures.length c.in_ok-list.ensures.zeros c.in_ok-list.ensures.none)

pub loop-row-preserved : goal.loop-row-preserved
loop-row-preserved c = IsSpreadBelow-next _ _ _ _ _ c.requires.rows c.requires.columns c.loop-row-test.true c.loop-row.invariant c.spread_row.ensures

pub returns : goal.returns
returns c =
    let size = c.loop-row.invariant.size ∙ sym c.in_ok-list.ensures.length ∙ sym (ap length c.as_mut_slice-given.ensures.value) ∙ c.as_mut_slice-given.ensures.len in
    let done : c.loop-row.row ≡ c.args.matrix.now.rows = omega (arith, c.loop-row-test.false) in
    subst (IsSpread c.args.size c.args.matrix.now) (sym (whole_slice c.in_ok-list.list.len (length c.loop-row.given) c.loop-row.given c.in_ok-list.list.items size))
    (IsSpread-end _ _ _ (subst (IsSpreadBelow c.args.size c.args.matrix.now c.loop-row.given) done c.loop-row.invariant))
