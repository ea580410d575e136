use Rattle.std.proofs.Common.{ℕ, ◌<◌}
use Rattle.msp_cert.specs.Small.{StepsFrom}
use Rattle.msp_cert.specs.Certificates.{of_job}
use Rattle.msp_cert.proofs.levels.steps_down.Given as goal

-- each job so far is of level 0, or such an arc leaves it
abbrev pub invariant-loop-k : goal.invariant-loop-k
invariant-loop-k l = (j : ℕ) → j < l.k → StepsFrom l.inst (of_job l.level) j
