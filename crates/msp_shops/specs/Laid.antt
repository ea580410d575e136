-- The pieces of all jobs as Jackson's rule lays them. No public contract cites this file.
use Rattle.std.specs.Prelude.{◌≡◌, ◌++◌, List, sum_by}
use Rattle.msp_pieces.specs.declared.Piece.{Piece}
use Rattle.msp_shops.specs.declared.pass.JobTimes.{JobTimes}
use Rattle.msp_shops.specs.declared.pass.Moments.{Moments}
use Rattle.msp_shops.specs.Pass.{IsPass}

-- The second machine of a group is free when the jobs that begin on it have left it.
abbrev pub after : List JobTimes → Moments
after others = record { first = 0; second = sum_by (λ t. t.first) others }

-- The jobs `here` begin on machine 0 and go on to machine 1 after the jobs `there`, which begin on machine 1 and go on to machine 0 after
-- the jobs `here`.
pub record AreLaid (here there : List JobTimes) (pieces : List Piece) : Type 0 where
  pub end_here : Moments
  pub end_there : Moments
  pub pieces_here : List Piece
  pub pieces_there : List Piece
  pub is : pieces ≡ pieces_here ++ pieces_there
  pub pass_here : IsPass (record { op = 0; machine = 0 }) (record { op = 1; machine = 1 }) here (after there) end_here pieces_here
  pub pass_there : IsPass (record { op = 0; machine = 1 }) (record { op = 1; machine = 0 }) there (after here) end_there pieces_there
