-- the pieces so far
use Rattle.std.proofs.Common.{◌≡◌, map}
use Rattle.std.specs.List.{range_with_len}
use Rattle.msp_cut_sums.specs.Schedules.{stacked_piece}
use Rattle.msp_cut_sums.proofs.stacks.stacked_pieces.Given as goal

abbrev pub invariant-loop-place : goal.invariant-loop-place
invariant-loop-place l = l.pieces ≡ map (stacked_piece l.machines l.order l.ends) (range_with_len 0 l.place)
