use Rattle.std.proofs.Common.{◌≡◌, ◌-◌, map, take, pos, ◌-ℤ◌}
use Rattle.msp_total.proofs.job_slots.dues_of.Given as goal

-- those so far
abbrev pub invariant-loop-job : goal.invariant-loop-job
invariant-loop-job l = l.all.items ≡ map (λ j. j.due -ℤ pos (l.span - 1)) (take l.job-index l.jobs)
