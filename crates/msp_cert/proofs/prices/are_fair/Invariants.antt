use Rattle.std.proofs.Common.{ℕ, ◌<◌, length, pos}
use Rattle.std.specs.Prelude.{slice_index_or}
use Rattle.msp_instance.specs.Instance.{job_at}
use Rattle.msp_cert.specs.Fair.{IsFair}
use Rattle.msp_cert.proofs.prices.are_fair.Given as goal

-- the jobs so far are fair
abbrev pub invariant-loop-job : goal.invariant-loop-job
invariant-loop-job l = (j : ℕ) → j < l.job → IsFair (slice_index_or l.row j (pos 0)) l.column (length l.inst.jobs) (job_at l.inst j).needs
