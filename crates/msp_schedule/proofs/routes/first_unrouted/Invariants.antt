-- The operations so far are in their route.
use Rattle.std.proofs.Common.{ℕ, ◌<◌}
use Rattle.msp_schedule.specs.Breaks.{KeepsRoute}
use Rattle.msp_schedule.proofs.routes.first_unrouted.Given as goal

abbrev pub invariant-loop-op : goal.invariant-loop-op
invariant-loop-op l = (o : ℕ) → o < l.op → KeepsRoute l.pieces l.job o
