use Rattle.std.proofs.Common.{◌≡◌, ℕ, ◌<◌, ◌==◌, false, take, slice_index_or}
use Rattle.std.specs.List.{list_any}
use Rattle.msp_class.specs.declared.sizes.TheConstants.{MOST_JOBS}
use Rattle.msp_pieces.proofs.job_flags.flags_of.Given as goal

-- the jobs so far are flagged
abbrev pub invariant-loop-job : goal.invariant-loop-job
invariant-loop-job l = (j : ℕ) → j < MOST_JOBS → slice_index_or l.flags j false ≡ list_any (λ k. k == j) (take l.job-index l.jobs)
