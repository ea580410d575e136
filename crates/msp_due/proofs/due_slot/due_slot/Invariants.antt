use Rattle.std.proofs.Common.{◌-◌}
use Rattle.msp_due.specs.Steps.{IsBetween}
use Rattle.msp_due.proofs.due_slot.due_slot.Given as goal

-- the due slot lies between the two
abbrev pub invariant-loop-between : goal.invariant-loop-between
invariant-loop-between l = IsBetween l.inst l.bound l.job l.between

abbrev pub decreases-loop-between : goal.decreases-loop-between
decreases-loop-between l = l.between.beyond - l.between.met
