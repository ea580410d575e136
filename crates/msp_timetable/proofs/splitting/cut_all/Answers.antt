use Rattle.std.proofs.Common.{◌≡◌, arith, subst}
use Rattle.msp_timetable.specs.Square.{IsSplitting}
use Rattle.msp_timetable.proofs.Slices.{IsSplitting-start, IsSplit-end}
use Rattle.msp_timetable.proofs.splitting.cut_all.Goals as goal

pub slices-init : goal.slices-init
slices-init c = IsSplitting-start _ _ _ _ _ _ c.requires.some_rows
    c.in_ok-filled.ensures.size c.in_ok-filled.ensures.filled c.in_ok-seats.ensures.permuted c.in_ok-seats.ensures.owners c.new-slices.ensures.items

pub returns : goal.returns
returns c =
    let zero : c.slices.left ≡ 0 = omega (arith, c.slices-test.false) in
    IsSplit-end _ _ _ _ _ (subst (IsSplitting c.args.matrix.now c.slices.square c.slices.seats.columns.items c.slices.seats.owner.items c.slices.slices.items) zero c.slices.invariant)
