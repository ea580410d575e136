-- the pieces so far
use Rattle.std.proofs.Common.{◌≡◌, map}
use Rattle.std.specs.List.{range_with_len}
use Rattle.msp_cut_sums.specs.Schedules.{blocked_piece}
use Rattle.msp_cut_sums.proofs.blocks.blocked_pieces.Given as goal

abbrev pub invariant-loop-place : goal.invariant-loop-place
invariant-loop-place l = l.pieces ≡ map (blocked_piece l.machines l.time l.order) (range_with_len 0 l.place)
