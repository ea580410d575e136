-- What holds in the loop of `lists_at`: what is left gives the answer of the whole.
use Rattle.std.proofs.Common.{◌≡◌, [], ◌∷◌, None, length}
use Rattle.msp_grammar.specs.lines.Reading.{lines_from}
use Rattle.msp_grammar.proofs.reading.Lines.{Leaves}
use Rattle.msp_cert_text.specs.CertificateText.{segment_lines}
use Rattle.msp_cert_text.specs.Reading.{segments_step}
use Rattle.msp_cert_text.specs.Steps.{lists_of}
use Rattle.msp_grammar.specs.lines.Steps.{place_of}
use Rattle.msp_cert_text.proofs.segments.lists_at.Given as goal

abbrev pub invariant-lines : goal.invariant-lines
invariant-lines l =
    (l.before ≡ length (segment_lines l.names (lists_of l.lists)))
    × Leaves (segments_step l.names) None (lists_of l.lists) (place_of l.lines) (lines_from (segments_step l.names) ([] ∷ []) (place_of l.fn.lines))

abbrev pub decreases-lines : goal.decreases-lines
decreases-lines l = length l.lines.rest.now
