use Rattle.msp_slots.specs.Filling.{AreFilled}
use Rattle.msp_slots.proofs.earliest.earliest_slots.Given as goal

-- the slots for the first release dates are filled, up to the moment
abbrev pub invariant-loop-k : goal.invariant-loop-k
invariant-loop-k l = AreFilled l.machines l.releases l.k l.moment l.taken l.slots.items
