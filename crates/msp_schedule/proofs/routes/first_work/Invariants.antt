-- The jobs so far get their work.
use Rattle.std.proofs.Common.{ℕ, ◌<◌}
use Rattle.msp_schedule.specs.Works.{IsWorked}
use Rattle.msp_schedule.proofs.routes.first_work.Given as goal

abbrev pub invariant-loop-job : goal.invariant-loop-job
invariant-loop-job l = (j o : ℕ) → j < l.job → IsWorked l.inst l.unit l.pieces j o
