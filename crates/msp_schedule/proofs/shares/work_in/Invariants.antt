-- The jobs so far get their work.
use Rattle.std.proofs.Common.{ℕ, ◌<◌}
use Rattle.msp_schedule.specs.Works.{IsWorked}
use Rattle.msp_schedule.proofs.shares.work_in.Given as goal

abbrev pub invariant-loop-job : goal.invariant-loop-job
invariant-loop-job l = (j o : ℕ) → j < l.job → IsWorked l.inst l.unit l.pieces j o
