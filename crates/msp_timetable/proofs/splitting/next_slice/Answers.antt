use Rattle.std.proofs.Common.{◌≡◌, ◌≤◌, pos, to_z, arith, refl}
use Rattle.std.specs.Int.{w128}
use Rattle.std.proofs.lemmas.Int.{ints}
use Rattle.msp_timetable.specs.declared.matrix.Slice.{Slice}
use Rattle.msp_timetable.specs.Split.{greatest_sum}
use Rattle.msp_timetable.proofs.Slices.{longest-fits, IsSplitting-read}
use Rattle.msp_timetable.proofs.splitting.next_slice.Goals as goal

pub overflow_cast-length : goal.overflow_cast-length
overflow_cast-length c =
    let w = longest-fits _ _ _ _ _ _ _ _ _ c.as_slice-columns.ensures.value c.requires.splitting c.in_ok-match_rows.ensures.permuted c.in_ok-match_rows.ensures.stocks c.longest-length.ensures in
    let small : c.longest-length.result ≤ greatest_sum = w.2 in
    omega (arith, ints)

pub overflow_sub-result : goal.overflow_sub-result
overflow_sub-result c =
    (longest-fits _ _ _ _ _ _ _ _ _ c.as_slice-columns.ensures.value c.requires.splitting c.in_ok-match_rows.ensures.permuted c.in_ok-match_rows.ensures.stocks c.longest-length.ensures).1

pub returns-clause-splitting : goal.returns-clause-splitting
returns-clause-splitting c =
    let w = longest-fits _ _ _ _ _ _ _ _ _ c.as_slice-columns.ensures.value c.requires.splitting c.in_ok-match_rows.ensures.permuted c.in_ok-match_rows.ensures.stocks c.longest-length.ensures in
    let small : c.longest-length.result ≤ greatest_sum = w.2 in
    let fits : to_z w128 c.longest-length.result ≡ pos c.longest-length.result = omega (arith, ints) in
    let slice : Slice = record { length = to_z w128 c.longest-length.result; column = c.in_ok-column.column } in
    IsSplitting-read _ _ _ _ _ _ _ _ _ _ _ slice _ _ c.as_slice-columns.ensures.value c.requires.splitting c.in_ok-match_rows.ensures.permuted
    c.in_ok-match_rows.ensures.owners c.in_ok-match_rows.ensures.stocks c.longest-length.ensures c.in_ok-column.ensures c.cut.ensures fits refl c.in_ok-push.ensures.items

pub returns-clause-less : goal.returns-clause-less
returns-clause-less c =
    let w = longest-fits _ _ _ _ _ _ _ _ _ c.as_slice-columns.ensures.value c.requires.splitting c.in_ok-match_rows.ensures.permuted c.in_ok-match_rows.ensures.stocks c.longest-length.ensures in
    omega (arith, w.0, w.1)
