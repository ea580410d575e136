use Rattle.std.proofs.Common.{rules, arith, ap, ◌∙◌, get_or, pos, nat_abs}
use Rattle.std.specs.Int.{w128}
use Rattle.std.proofs.lemmas.Int.{to_z-of_z}
use Rattle.msp_timetable.proofs.Fills.{IsSpreading-read}
use Rattle.msp_timetable.proofs.filling.spread_row.Goals as goal

pub loop-column-preserved : goal.loop-column-preserved
loop-column-preserved c =
    IsSpreading-read _ _ _ _ _ _ c.requires.given c.requires.row c.requires.rows c.requires.columns (omega (arith, c.loop-column-test.true)) c.requires.matrix c.loop-column.invariant
    _ _ (get_or c.as_slice.result.now c.place-from.result (pos 0)) c.place.ensures.place
    (c.unsigned_abs.ensures.value ∙ ap nat_abs (to_z-of_z w128 (get_or c.as_slice.result.now c.place-from.result (pos 0)) (search rules)))
    (ap (λ xs. get_or xs c.place-from.result (pos 0)) c.as_slice.ensures ∙ ap (λ p. get_or c.args.matrix.now.cells p (pos 0)) c.place-from.ensures.place)
