use Rattle.std.proofs.Common.{◌≡◌, ◌++◌, drop}
use Rattle.msp_report.specs.ChainText.{row_lines}
use Rattle.msp_report.proofs.chain_text.put_rows.Given as goal

abbrev pub invariant-loop-row : goal.invariant-loop-row
invariant-loop-row l = l.out.items ++ row_lines l.here (drop l.row-index l.rows) ≡ l.initial.out.items ++ row_lines l.initial.here l.rows
