-- What holds in the loop of `pieces_at`: what is left gives the answer of the whole.
use Rattle.std.proofs.Common.{[], None, length}
use Rattle.msp_grammar.specs.lines.Reading.{lines_from}
use Rattle.msp_grammar.proofs.reading.Lines.{Leaves}
use Rattle.msp_file.specs.schedule.Reading.{piece_step}
use Rattle.msp_grammar.specs.lines.Steps.{place_of}
use Rattle.msp_file.proofs.schedule.read.pieces_at.Given as goal

abbrev pub invariant-lines : goal.invariant-lines
invariant-lines l = Leaves (piece_step l.names) None l.pieces (place_of l.lines) (lines_from (piece_step l.names) [] (place_of l.fn.lines))

abbrev pub decreases-lines : goal.decreases-lines
decreases-lines l = length l.lines.rest.now
