-- Pieces of one operation that touch on its machine.
use Rattle.std.specs.Prelude.{◌≡◌, List, AllPairs}
use Rattle.msp_pieces.specs.declared.Piece.{Piece}

-- The second piece goes on with the first: it runs the same operation on the same machine, from the moment on at which the first ends.
pub record GoesOn (p q : Piece) : Type 0 where
  pub job : p.job ≡ q.job
  pub op : p.op ≡ q.op
  pub machine : p.machine ≡ q.machine
  pub touch : p.to ≡ q.from

-- No piece goes on with another.
abbrev pub AreJoined : List Piece → Type 0
AreJoined pieces = AllPairs (λ p q. (¬ GoesOn p q) × (¬ GoesOn q p)) pieces
