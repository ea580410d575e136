use Rattle.std.proofs.Common.{◌<◌, arith, ap}
use Rattle.msp_assign.specs.Passing.{at}
use Rattle.msp_timetable.specs.Square.{cell_at}
use Rattle.msp_timetable.proofs.Fills.{total_below-part}
use Rattle.msp_timetable.proofs.filling.column_sum.Goals as goal

pub overflow_add-sum : goal.overflow_add-sum
overflow_add-sum c =
    let l : c.loop-row.row < c.args.size = omega (arith, c.loop-row-test.true) in
    let part = total_below-part c.args.size c.loop-row.row (λ k. cell_at c.args.size c.args.given.now k c.args.column) l in
    omega (arith, part, c.requires.few, c.loop-row.invariant, ap (at c.args.given.now) c.place.ensures.place)
