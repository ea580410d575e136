-- The report of `rows`, line by line.
use Rattle.std.proofs.Common.{◌≡◌, ℕ, ◌+◌, ◌-◌, ◌<◌, ◌≤◌, List, [], ◌++◌, length, take, refl, sym, ap, ap₂, ◌∙◌, subst, lit≤, arith}
use Rattle.std.specs.Fmt.{digits}
use Rattle.std.specs.List.{flat_map, range_with_len}
use Rattle.std.proofs.lemmas.List.{length-append}
use Rattle.std.proofs.lemmas.List.Folds.{length-flat_map-take}
use Rattle.std.proofs.lemmas.List.FromFn.{length-range_with_len, get_or-range_with_len}
use Rattle.msp_class.proofs.Lists.{flat_map-take_more}
use Rattle.msp_table.specs.Rows.{table, text_of}
use Rattle.msp_table.specs.declared.row.TheConstants.{ROWS}
use Rattle.msp_report.specs.declared.rows.TheConstants.{ROWS_ROOM}
use Rattle.msp_report.specs.ChainText.{end_line}
use Rattle.msp_report.specs.RowsText.{table_line, rows_report}

-- the lines of the rows before one
unfoldable pub lines_before : ℕ → List ℕ
lines_before k = flat_map table_line (take (k - 1) (range_with_len 1 ROWS))

-- the report so far, before a row
abbrev pub IsBefore : ℕ → List ℕ → Type 0
IsBefore k out = out ≡ lines_before k

pub IsBefore-first : IsBefore 1 []
unfolding lines_before
IsBefore-first = refl

more : (f : ℕ → List ℕ) (rows n k : ℕ) → n < rows → 1 + n ≡ k → flat_map f (take (n + 1) (range_with_len 1 rows)) ≡ flat_map f (take n (range_with_len 1 rows)) ++ f k
more f rows n k less is =
    flat_map-take_more f (range_with_len 1 rows) n 0 (omega (arith, less, length-range_with_len 1 rows))
    ∙ ap (λ row. flat_map f (take n (range_with_len 1 rows)) ++ f row) (get_or-range_with_len 1 rows n 0 less ∙ is)

lines_before-next : (k : ℕ) → 1 ≤ k → k ≤ ROWS → lines_before (k + 1) ≡ lines_before k ++ table_line k
unfolding lines_before
lines_before-next k from to =
    let n = k - 1 in
    let on : (k + 1) - 1 ≡ n + 1 = omega arith in
    ap (λ m. flat_map table_line (take m (range_with_len 1 ROWS))) on ∙ more table_line ROWS n k (omega arith) (omega arith)

pub IsBefore-next : (k row : ℕ) (out after : List ℕ) → 1 ≤ k → k ≤ ROWS → row ≡ k → IsBefore k out → after ≡ out ++ table_line row → IsBefore (k + 1) after
IsBefore-next k row out after from to is h put = put ∙ ap₂ (λ l r. l ++ table_line r) h is ∙ sym (lines_before-next k from to)

-- the report is the lines of all rows and its last line
all_lines : lines_before (ROWS + 1) ++ end_line ≡ rows_report
unfolding lines_before rows_report
all_lines = refl

pub IsBefore-last : (k : ℕ) (out after : List ℕ) → k ≡ ROWS + 1 → IsBefore k out → after ≡ out ++ end_line → after ≡ rows_report
IsBefore-last k out after is h put = put ∙ ap (λ l. l ++ end_line) (h ∙ ap lines_before is) ∙ all_lines

-- ---- it has room
report_fits : length rows_report ≤ ROWS_ROOM
unfolding rows_report text_of table digits
report_fits = lit≤ tt

report_long : length (flat_map table_line (range_with_len 1 ROWS)) + length end_line ≡ length rows_report
unfolding rows_report
report_long = sym (length-append (flat_map table_line (range_with_len 1 ROWS)) end_line)

within : (f : ℕ → List ℕ) (rows n k : ℕ) → n < rows → 1 + n ≡ k → length (flat_map f (take n (range_with_len 1 rows))) + length (f k) ≤ length (flat_map f (range_with_len 1 rows))
within f rows n k less is =
    subst (λ j. length (flat_map f (take n (range_with_len 1 rows))) + length (f j) ≤ length (flat_map f (range_with_len 1 rows))) (get_or-range_with_len 1 rows n 0 less ∙ is)
    (length-flat_map-take f (range_with_len 1 rows) n 0 (omega (arith, less, length-range_with_len 1 rows)))

line_fits : (k : ℕ) → 1 ≤ k → k ≤ ROWS → length (lines_before k) + length (table_line k) ≤ ROWS_ROOM
unfolding lines_before
line_fits k from to = omega (arith, within table_line ROWS (k - 1) k (omega arith) (omega arith), report_long, report_fits)

pub IsBefore-room : (k row : ℕ) (out : List ℕ) → 1 ≤ k → k ≤ ROWS → row ≡ k → IsBefore k out → length out + length (table_line row) ≤ ROWS_ROOM
IsBefore-room k row out from to is h = subst (λ r. length out + length (table_line r) ≤ ROWS_ROOM) (sym is) (subst (λ l. length l + length (table_line k) ≤ ROWS_ROOM) (sym h) (line_fits k from to))

pub IsBefore-end : (k : ℕ) (out : List ℕ) → k ≡ ROWS + 1 → IsBefore k out → length out + length end_line ≤ ROWS_ROOM
IsBefore-end k out is h = subst (λ l. length l + length end_line ≤ ROWS_ROOM)
    (sym (h ∙ ap lines_before is)) (omega (arith, sym (length-append (lines_before (ROWS + 1)) end_line) ∙ ap length all_lines, report_fits))
