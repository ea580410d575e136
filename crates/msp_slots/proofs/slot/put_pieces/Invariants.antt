use Rattle.std.proofs.Common.{◌≡◌, ◌++◌, take}
use Rattle.msp_slots.specs.Steps.{seats}
use Rattle.msp_slots.proofs.slot.put_pieces.Given as goal

-- the pieces so far
abbrev pub invariant-loop-machine : goal.invariant-loop-machine
invariant-loop-machine l = l.pieces ≡ l.initial.pieces ++ seats l.moment 0 (take l.machine l.taken)
