-- The arcs before the place are turned, the others are as they were.
use Rattle.std.proofs.Common.{◌≡◌, ◌++◌, map, take, drop}
use Rattle.msp_turn.specs.Turned.{turned_arc}
use Rattle.msp_turn.proofs.arcs.turn_all.Given as goal

abbrev pub invariant-loop-arc : goal.invariant-loop-arc
invariant-loop-arc l = l.arcs ≡ map turned_arc (take l.arc-index l.initial.arcs) ++ drop l.arc-index l.initial.arcs
