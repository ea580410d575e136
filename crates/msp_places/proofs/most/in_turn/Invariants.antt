-- the pieces so far
use Rattle.std.proofs.Common.{◌≡◌, slice_index_or}
use Rattle.msp_places.specs.Placed.{placed}
use Rattle.msp_places.proofs.most.in_turn.Given as goal

abbrev pub invariant-loop-turn : goal.invariant-loop-turn
invariant-loop-turn l = l.pieces ≡ placed l.turn l.places (λ k. slice_index_or l.order k 0) (λ k. k)
