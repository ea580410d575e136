-- The arcs so far are kept.
use Rattle.std.proofs.Common.{ℕ, ◌<◌}
use Rattle.std.specs.Prelude.{slice_index_or}
use Rattle.msp_schedule.specs.Breaks.{no_arc, KeepsArc}
use Rattle.msp_schedule.proofs.arcs.swept_arc.Given as goal

abbrev pub invariant-loop-at : goal.invariant-loop-at
invariant-loop-at l = (k : ℕ) → k < l.at → KeepsArc l.pieces (slice_index_or l.arcs k no_arc)
