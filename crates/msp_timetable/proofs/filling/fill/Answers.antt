use Rattle.std.proofs.Common.{arith, subst, sym}
use Rattle.msp_timetable.specs.Square.{HasSmallLines, IsGreatest, IsLacking}
use Rattle.msp_timetable.proofs.Fills.{HasSmallLines-matrix, IsLacking-same, IsFilled-made}
use Rattle.msp_timetable.proofs.filling.fill.Goals as goal

pub greatest-greatest-requires-clause-few : goal.greatest-greatest-requires-clause-few
greatest-greatest-requires-clause-few c = subst (HasSmallLines c.max-size.result) (sym c.as_slice.ensures.value)
    (HasSmallLines-matrix _ _ _ (omega (arith, c.max-size.ensures)) (omega (arith, c.max-size.ensures)) c.in_ok-given.ensures c.requires.matrix)

pub pad-requires-clause-same : goal.pad-requires-clause-same
pad-requires-clause-same c = IsLacking-same _ _ _ _ _ c.in_ok-lacks.ensures

pub returns-clause-filled : goal.returns-clause-filled
returns-clause-filled c = IsFilled-made _ _ _ c.in_ok-lacks.lacks.rows.items c.in_ok-lacks.lacks.columns.items
    (omega (arith, c.max-size.ensures, c.requires.few_rows, c.requires.few_columns)) c.in_ok-given.ensures
    (subst (λ xs. IsGreatest c.max-size.result xs c.greatest-greatest.result) c.as_slice.ensures.value c.greatest-greatest.ensures)
    (subst (λ xs. IsLacking c.max-size.result xs c.greatest-greatest.result c.in_ok-lacks.lacks.rows.items c.in_ok-lacks.lacks.columns.items) c.as_slice-2.ensures.value c.in_ok-lacks.ensures)
    c.in_ok-padding.ensures
