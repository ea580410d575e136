-- The jobs so far keep their routes.
use Rattle.std.proofs.Common.{ℕ, ◌<◌}
use Rattle.msp_schedule.specs.Breaks.{KeepsRoute}
use Rattle.msp_schedule.proofs.shares.route_in.Given as goal

abbrev pub invariant-loop-job : goal.invariant-loop-job
invariant-loop-job l = (j o : ℕ) → j < l.job → KeepsRoute l.pieces j o
