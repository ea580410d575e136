-- the pieces so far
use Rattle.std.proofs.Common.{◌≡◌, map}
use Rattle.std.specs.List.{range_with_len}
use Rattle.msp_cut_sums.specs.Pieces.{squared_piece}
use Rattle.msp_cut_sums.proofs.squares.squared_pieces.Given as goal

abbrev pub invariant-loop-turn : goal.invariant-loop-turn
invariant-loop-turn l = l.pieces ≡ map (squared_piece l.machines l.time l.order) (range_with_len 0 l.turn)
