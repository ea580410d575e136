-- No arc so far leads to the job.
use Rattle.std.proofs.Common.{◌≡◌, length, drop}
use Rattle.msp_trees.specs.Horn.{first_before, before}
use Rattle.msp_trees.proofs.joining.job_before.Given as goal

-- what is before the job is so by the arcs that are left
abbrev pub invariant-loop-arc : goal.invariant-loop-arc
invariant-loop-arc l = before l.inst l.job ≡ first_before (drop l.arc-index l.arc-items) (length l.inst.jobs) l.job
