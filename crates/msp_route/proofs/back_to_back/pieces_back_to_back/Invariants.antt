-- The pieces of the jobs so far, and the moment at which the last of them ends.
use Rattle.std.proofs.Common.{◌≡◌, ◌*◌, ◌≤◌, take, sum_by}
use Rattle.msp_pieces.specs.BackToBack.{back_to_back, piece, time_at}
use Rattle.msp_route.proofs.BackToBackSteps.{greatest_length}
use Rattle.msp_route.proofs.back_to_back.pieces_back_to_back.Given as goal

abbrev pub invariant-loop-k : goal.invariant-loop-k
invariant-loop-k l = record {
  laid : l.pieces ≡ back_to_back piece (λ j. l.unit * time_at l.inst j) 0 (take l.k l.order);
  ends : l.moment ≡ sum_by (λ j. l.unit * time_at l.inst j) (take l.k l.order);
  early : l.moment ≤ greatest_length * l.k;
}
