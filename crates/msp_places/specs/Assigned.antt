-- Jobs that are assigned to the earliest places at least cost. No public contract cites this file.
use Rattle.std.specs.Prelude.{◌≡◌, ℕ, ℤ, List, length}
use Rattle.msp_instance.specs.declared.Instance.{Instance}
use Rattle.msp_pieces.specs.declared.Piece.{Piece}
use Rattle.msp_assign.specs.Prices.{IsAssigned, IsLeast, column_of}
use Rattle.msp_places.specs.declared.place.Place.{Place}
use Rattle.msp_places.specs.Places.{place_at, AreEarliestPlaces}
use Rattle.msp_places.specs.Placed.{placed}
use Rattle.msp_places.specs.Most.{cost_in}

-- What job j costs over the unit if it ends with the place of number k.
abbrev pub place_cost : Instance → ℕ → List Place → ℕ → ℕ → ℤ
place_cost i unit places j k = cost_in i unit (place_at places k).end j

-- The pieces of n jobs, each in the place of its column.
abbrev pub in_columns : ℕ → List Place → List ℕ → List Piece
in_columns n places column = placed n places (λ j. j) (column_of column)

-- The pieces of the jobs in the earliest places, at least cost.
pub record AreLeastAssigned (i : Instance) (unit : ℕ) (pieces : List Piece) : Type 0 where
  pub places : List Place
  pub column : List ℕ
  pub earliest : AreEarliestPlaces i unit places
  pub assigned : IsAssigned (length i.jobs) (length i.jobs) column
  pub least : IsLeast (length i.jobs) (length i.jobs) (place_cost i unit places) column
  pub are : pieces ≡ in_columns (length i.jobs) places column
