-- What holds in the loop of `jobs_at`: what is left gives the answer of the whole.
use Rattle.std.proofs.Common.{◌≡◌, ◌≤◌, Some, length}
use Rattle.msp_class.specs.declared.sizes.TheConstants.{MOST_JOBS}
use Rattle.msp_grammar.proofs.reading.Lines.{Leaves}
use Rattle.msp_file.specs.instance.Reading.{job_step, arcs_from, jobs_from}
use Rattle.msp_grammar.specs.lines.Steps.{place_of}
use Rattle.msp_file.proofs.instance.draft.jobs_at.Given as goal

abbrev pub invariant-lines : goal.invariant-lines
invariant-lines l =
    (length l.draft.names ≡ length l.draft.jobs)
    × (length l.draft.names ≤ MOST_JOBS)
    × Leaves (job_step l.fn.frame.class l.fn.frame.machines l.fn.frame.time) (Some arcs_from) l.draft (place_of l.lines)
    (jobs_from l.fn.frame.class l.fn.frame.machines l.fn.frame.time l.fn.draft (place_of l.fn.lines))

abbrev pub decreases-lines : goal.decreases-lines
decreases-lines l = length l.lines.rest.now
