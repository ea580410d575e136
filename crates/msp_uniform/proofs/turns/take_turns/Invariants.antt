use Rattle.std.proofs.Common.{drop}
use Rattle.msp_uniform.specs.Plans.{IsReached}
use Rattle.msp_uniform.proofs.turns.take_turns.Given as goal

-- the jobs so far are laid
abbrev pub invariant-loop-k : goal.invariant-loop-k
invariant-loop-k l = IsReached l.task (drop l.k l.jobs) l.plan.unit l.plan.places l.plan.segments.items
