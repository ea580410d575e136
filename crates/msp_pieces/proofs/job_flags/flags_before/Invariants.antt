use Rattle.std.proofs.Common.{◌≡◌, ℕ, ◌<◌, ◌==◌, ◌&&◌, false, take, slice_index_or}
use Rattle.std.specs.List.{list_any}
use Rattle.msp_class.specs.declared.sizes.TheConstants.{MOST_JOBS}
use Rattle.msp_pieces.proofs.job_flags.flags_before.Given as goal

-- the jobs before of the arcs so far are flagged where the arc's job after is
abbrev pub invariant-loop-arc : goal.invariant-loop-arc
invariant-loop-arc l = (j : ℕ) → j < MOST_JOBS → slice_index_or l.before j false ≡ list_any (λ a. a.before == j && slice_index_or l.flags a.after false) (take l.arc-index l.arcs)
