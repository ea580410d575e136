-- What holds in the loop of `put_levels`.
use Rattle.std.proofs.Common.{◌≡◌, ◌++◌, drop, codes, decimal}
use Rattle.msp_cert_text.specs.CertificateText.{numbered_lines, lines_text}
use Rattle.msp_cert_text.proofs.printer.put_levels.Given as goal

-- what is written and what is still to be written are the whole
abbrev pub invariant-jobs : goal.invariant-jobs
invariant-jobs l = l.out.items ++ lines_text (numbered_lines (codes "level") decimal (drop l.at l.names) (drop l.at l.levels))
    ≡ l.initial.out.items ++ lines_text (numbered_lines (codes "level") decimal l.names l.levels)
