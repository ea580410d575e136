-- What holds in the loop of `put_lists`.
use Rattle.std.proofs.Common.{◌≡◌, ◌++◌, drop}
use Rattle.msp_cert_text.specs.CertificateText.{segment_lines, lines_text}
use Rattle.msp_cert_text.proofs.printer.put_lists.Given as goal

-- what is written and what is still to be written are the whole
abbrev pub invariant-loop-jobs : goal.invariant-loop-jobs
invariant-loop-jobs l = l.out.items ++ lines_text (segment_lines l.names (drop l.jobs-index l.lists)) ≡ l.initial.out.items ++ lines_text (segment_lines l.names l.lists)
