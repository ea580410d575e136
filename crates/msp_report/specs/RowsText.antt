-- The text of the report of `rows`.
use Rattle.std.specs.Prelude.{ℕ, List, ◌++◌, codes, decimal}
use Rattle.std.specs.List.{flat_map, range_with_len}
use Rattle.msp_table.specs.declared.row.RowKind.{RowKind}
use Rattle.msp_table.specs.declared.row.RowKind.TheVariants.{Carries, Threshold}
use Rattle.msp_table.specs.declared.row.TheConstants.{ROWS}
use Rattle.msp_table.specs.Rows.{kind_of, text_of}
use Rattle.msp_report.specs.ChainText.{end_line}

-- the word of a row's kind
abbrev pub kind_text : RowKind → List ℕ
kind_text Carries = codes "carries"
kind_text Threshold = codes "threshold"

-- the line of a row of the table: its number, kind and text
abbrev pub table_line : ℕ → List ℕ
table_line k = codes "row " ++ decimal k ++ codes " " ++ kind_text (kind_of k) ++ codes " " ++ text_of k ++ codes "\n"

-- the report of `rows`: the line of each row, in order of their numbers
unfoldable pub rows_report : List ℕ
rows_report = flat_map table_line (range_with_len 1 ROWS) ++ end_line
