-- What holds in the loop of `put_rows`.
use Rattle.std.proofs.Common.{◌≡◌, ◌++◌, drop, codes}
use Rattle.std.specs.Fmt.{signed_decimal}
use Rattle.msp_cert_text.specs.CertificateText.{numbered_lines, lines_text}
use Rattle.msp_cert_text.proofs.printer.put_rows.Given as goal

-- what is written and what is still to be written are the whole
abbrev pub invariant-jobs : goal.invariant-jobs
invariant-jobs l = l.out.items ++ lines_text (numbered_lines (codes "row") signed_decimal (drop l.at l.names) (drop l.at l.row))
    ≡ l.initial.out.items ++ lines_text (numbered_lines (codes "row") signed_decimal l.names l.row)
