-- What holds in the loop of `put_columns`.
use Rattle.std.proofs.Common.{◌≡◌, ◌++◌, drop}
use Rattle.msp_cert_text.specs.CertificateText.{column_lines, lines_text}
use Rattle.msp_cert_text.proofs.printer.put_columns.Given as goal

-- what is written and what is still to be written are the whole
abbrev pub invariant-positions : goal.invariant-positions
invariant-positions l = l.out.items ++ lines_text (column_lines l.jobs l.at (drop l.at l.column)) ≡ l.initial.out.items ++ lines_text (column_lines l.jobs 0 l.column)
