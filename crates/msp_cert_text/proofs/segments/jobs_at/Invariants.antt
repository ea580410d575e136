-- What holds in the loop of `jobs_at`: what is left gives the answer of the whole.
use Rattle.std.proofs.Common.{[], None, length}
use Rattle.msp_grammar.specs.lines.Reading.{lines_from}
use Rattle.msp_grammar.specs.lines.Steps.{place_of}
use Rattle.msp_grammar.proofs.reading.Lines.{Leaves}
use Rattle.msp_cert_text.specs.Reading.{jobs_step}
use Rattle.msp_cert_text.proofs.segments.jobs_at.Given as goal

abbrev pub invariant-lines : goal.invariant-lines
invariant-lines l = Leaves (jobs_step l.names l.before) None l.jobs (place_of l.lines) (lines_from (jobs_step l.names l.before) [] (place_of l.fn.lines))

abbrev pub decreases-lines : goal.decreases-lines
decreases-lines l = length l.lines.rest.now
