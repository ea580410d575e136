-- What holds in the loop of `put_jobs`.
use Rattle.std.proofs.Common.{◌≡◌, ◌++◌, drop}
use Rattle.msp_cert_text.specs.CertificateText.{job_lines, lines_text}
use Rattle.msp_cert_text.proofs.printer.put_jobs.Given as goal

-- what is written and what is still to be written are the whole
abbrev pub invariant-loop-job : goal.invariant-loop-job
invariant-loop-job l = l.out.items ++ lines_text (job_lines l.names (drop l.job-index l.jobs)) ≡ l.initial.out.items ++ lines_text (job_lines l.names l.jobs)
