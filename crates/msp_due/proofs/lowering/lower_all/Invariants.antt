use Rattle.msp_instance.specs.Paths.{leads}
use Rattle.msp_due.specs.Steps.{AreLoweredFrom}
use Rattle.msp_due.proofs.lowering.lower_all.Given as goal

-- the due slots of the jobs from the place on are lowered
abbrev pub invariant-loop-place : goal.invariant-loop-place
invariant-loop-place l = AreLoweredFrom l.inst.machines (leads l.paths) l.order l.initial.slots l.place l.slots

abbrev pub decreases-loop-place : goal.decreases-loop-place
decreases-loop-place l = l.place
