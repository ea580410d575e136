-- Which pieces the rules of Johnson and Jackson give on two machines.
use Rattle.std.specs.Prelude.{◌≡◌, ◌≢◌, ℕ, ◌<◌, ◌⊎◌, List, pos, All, AllPairs, Contains}
use Rattle.msp_instance.specs.declared.Instance.{Instance}
use Rattle.msp_instance.specs.Instance.{need_at}
use Rattle.msp_pieces.specs.declared.Piece.{Piece}
use Rattle.msp_pieces.specs.declared.Schedule.{Schedule}
use Rattle.msp_pieces.specs.Piece.{IsBefore}
use Rattle.msp_shops.specs.Order.{ComesFirst}

-- Job a comes first in Johnson's order of the times at the first and at the second operation, where one that a job has not takes no time.
abbrev pub JobComesFirst : Instance → ℕ → ℕ → Type 0
JobComesFirst i a b = ComesFirst (λ j. (need_at i j 0).time) (λ j. (need_at i j 1).time) (λ j. j) a b

-- A machine runs the first operations before the second ones, and of the ones and of the others those of the job that comes first.
abbrev pub RunsFirst : Instance → Piece → Piece → Type 0
RunsFirst i p q = IsBefore p q × ((p.op < q.op) ⊎ ((p.op ≡ q.op) × JobComesFirst i p.job q.job))

-- The piece begins at moment 0, or as soon as another one of its machine or of its job ends.
abbrev pub BeginsEarly : List Piece → Piece → Type 0
BeginsEarly pieces p = (p.from ≡ pos 0) ⊎ ((q : Piece) × Contains pieces q × (q.to ≡ p.from) × ((q.machine ≡ p.machine) ⊎ (q.job ≡ p.job)))

-- The pieces of Jackson's rule, over the unit 1: the machines run them in its order, and none can begin earlier in this order.
pub record IsJacksonSchedule (i : Instance) (s : Schedule) : Type 0 where
  pub unit : s.unit ≡ pos 1
  -- no operation is cut
  pub whole : AllPairs (λ p q. p.job ≡ q.job → p.op ≢ q.op) s.pieces
  pub order : AllPairs (λ p q. p.machine ≡ q.machine → RunsFirst i p q ⊎ RunsFirst i q p) s.pieces
  pub early : All (BeginsEarly s.pieces) s.pieces
