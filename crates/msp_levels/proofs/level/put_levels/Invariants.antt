use Rattle.msp_levels.proofs.JobLevels.{IsLeveled}
use Rattle.msp_levels.proofs.level.put_levels.Given as goal

-- the jobs from the place on have their levels
abbrev pub invariant-loop-place : goal.invariant-loop-place
invariant-loop-place l = IsLeveled l.inst l.order l.place l.levels

abbrev pub decreases-loop-place : goal.decreases-loop-place
decreases-loop-place l = l.place
