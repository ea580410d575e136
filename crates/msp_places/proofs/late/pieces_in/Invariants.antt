-- the pieces so far
use Rattle.std.proofs.Common.{◌≡◌}
use Rattle.msp_places.specs.Assigned.{in_columns}
use Rattle.msp_places.proofs.late.pieces_in.Given as goal

abbrev pub invariant-loop-job : goal.invariant-loop-job
invariant-loop-job l = l.pieces ≡ in_columns l.job l.places l.column
