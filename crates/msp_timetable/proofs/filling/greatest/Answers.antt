use Rattle.std.proofs.Common.{max, arith, ap, ◌∙◌}
use Rattle.msp_timetable.proofs.Lists.{max-lines}
use Rattle.msp_timetable.proofs.Greatest.{IsGreatestBelow-next}
use Rattle.msp_timetable.proofs.filling.greatest.Goals as goal

pub loop-line-preserved : goal.loop-line-preserved
loop-line-preserved c =
    let w = max-lines c.loop-line.most c.row_sum.result c.column_sum.result c.max-most.result _ _ c.row_sum.ensures c.column_sum.ensures
    (c.max-most.ensures ∙ ap (λ x. max x c.loop-line.most) c.max-both.ensures) in
    IsGreatestBelow-next _ _ _ _ _ c.requires.few (omega (arith, c.loop-line-test.true)) c.loop-line.invariant w.0 w.1 w.2 w.3
