use Rattle.std.proofs.Common.{◌≡◌, false, take, All, slice_index_or}
use Rattle.msp_pieces.proofs.job_flags.follows_flagged.Given as goal

-- no arc so far joins the job to a flagged one
abbrev pub invariant-loop-arc : goal.invariant-loop-arc
invariant-loop-arc l = All (λ a. slice_index_or l.flags a.before false ≡ false) (take l.arc-index l.entering)
