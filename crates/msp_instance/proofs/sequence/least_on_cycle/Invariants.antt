use Rattle.std.proofs.Common.{ℕ, ◌<◌}
use Rattle.msp_instance.specs.Paths.{HasPath}
use Rattle.msp_instance.proofs.sequence.least_on_cycle.Given as goal

abbrev pub invariant-loop-job : goal.invariant-loop-job
invariant-loop-job l = (k : ℕ) → k < l.job → ¬ HasPath l.sorted k k
