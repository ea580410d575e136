-- The operations so far get their work.
use Rattle.std.proofs.Common.{ℕ, ◌<◌}
use Rattle.msp_schedule.specs.Works.{IsWorked}
use Rattle.msp_schedule.proofs.routes.first_unworked.Given as goal

abbrev pub invariant-loop-op : goal.invariant-loop-op
invariant-loop-op l = (o : ℕ) → o < l.op → IsWorked l.inst l.unit l.pieces l.job o
