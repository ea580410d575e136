-- the pieces so far
use Rattle.std.proofs.Common.{◌≡◌, map}
use Rattle.std.specs.List.{range_with_len}
use Rattle.msp_slots.specs.Earliest.{start_in}
use Rattle.msp_assign.specs.Prices.{column_of}
use Rattle.msp_total.specs.LineSteps.{line_piece}
use Rattle.msp_total.proofs.unit_lines.laid_out.Given as goal

abbrev pub invariant-loop-turn : goal.invariant-loop-turn
invariant-loop-turn l = l.pieces ≡ map (line_piece l.machines (λ j. start_in l.slots (column_of l.column j))) (range_with_len 0 l.turn)
