-- What holds in the loop of `columns_at`: what is left gives the answer of the whole.
use Rattle.std.proofs.Common.{◌≡◌, [], None, length}
use Rattle.msp_grammar.specs.lines.Reading.{lines_from}
use Rattle.msp_grammar.proofs.reading.Lines.{Leaves}
use Rattle.msp_cert_text.specs.CertificateText.{column_lines}
use Rattle.msp_cert_text.specs.Reading.{columns_step}
use Rattle.msp_grammar.specs.lines.Steps.{place_of}
use Rattle.msp_cert_text.proofs.columns.columns_at.Given as goal

abbrev pub invariant-lines : goal.invariant-lines
invariant-lines l =
    (l.used ≡ length (column_lines l.counts.jobs 0 l.prices))
    × Leaves (columns_step l.counts.jobs l.counts.machines l.before) None l.prices (place_of l.lines)
    (lines_from (columns_step l.counts.jobs l.counts.machines l.before) [] (place_of l.fn.lines))

abbrev pub decreases-lines : goal.decreases-lines
decreases-lines l = length l.lines.rest.now
