-- What holds in the loop of `arcs_at`: what is left gives the answer of the whole.
use Rattle.std.proofs.Common.{◌≡◌, ◌≤◌, None, length}
use Rattle.msp_class.specs.declared.sizes.TheConstants.{MOST_JOBS}
use Rattle.msp_grammar.proofs.reading.Lines.{Leaves}
use Rattle.msp_file.specs.instance.Reading.{arc_step, arcs_from}
use Rattle.msp_grammar.specs.lines.Steps.{place_of}
use Rattle.msp_file.proofs.instance.draft.arcs_at.Given as goal

abbrev pub invariant-lines : goal.invariant-lines
invariant-lines l =
    (length l.draft.names ≤ MOST_JOBS)
    × (l.draft.names ≡ l.fn.draft.names)
    × (l.draft.jobs ≡ l.fn.draft.jobs)
    × Leaves arc_step None l.draft (place_of l.lines) (arcs_from l.fn.draft (place_of l.fn.lines))

abbrev pub decreases-lines : goal.decreases-lines
decreases-lines l = length l.lines.rest.now
