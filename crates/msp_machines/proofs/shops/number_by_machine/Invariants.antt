-- The pieces before the place have the numbers, the others are as they were.
use Rattle.std.proofs.Common.{◌≡◌, ◌++◌, map, take, drop}
use Rattle.msp_machines.specs.Shops.{with_number, machine_number}
use Rattle.msp_machines.proofs.shops.number_by_machine.Given as goal

abbrev pub invariant-loop-piece : goal.invariant-loop-piece
invariant-loop-piece l = l.pieces ≡ map (with_number machine_number) (take l.piece-index l.initial.pieces) ++ drop l.piece-index l.initial.pieces
