use Rattle.msp_total.specs.SlotSteps.{AreLaid}
use Rattle.msp_total.proofs.unit_slots.laid_out.Given as goal

-- the jobs so far are in their slots
abbrev pub invariant-loop-job : goal.invariant-loop-job
invariant-loop-job l = AreLaid l.slots l.column l.job l.pieces
