-- Which job takes which of the earliest places, by the greatest cost of a job.
use Rattle.std.specs.Prelude.{◌≡◌, ℕ, ◌+◌, ◌<◌, ◌≤◌, ◌⊎◌, List, length, take, slice_index_or, ℤ, pos, ◌<ℤ◌, All, IsPermutation}
use Rattle.std.specs.List.{range_with_len}
use Rattle.msp_instance.specs.declared.Instance.{Instance}
use Rattle.msp_instance.specs.Instance.{job_at}
use Rattle.msp_instance.specs.Multiples.{IsLeastOfAll}
use Rattle.msp_pieces.specs.declared.Piece.{Piece}
use Rattle.msp_pieces.specs.declared.Schedule.{Schedule}
use Rattle.msp_pieces.specs.Cost.{job_cost}
use Rattle.msp_places.specs.declared.place.Place.{Place}
use Rattle.msp_places.specs.Places.{place_at, AreEarliestPlaces}
use Rattle.msp_places.specs.Placed.{placed}

-- What a job costs that ends at the moment, over the unit.
abbrev pub cost_in : Instance → ℕ → ℕ → ℕ → ℤ
cost_in i unit end j = job_cost i.class.crit (pos unit) (job_at i j) (pos end)

-- Job a costs less than job b at the moment, or as much and has no greater number.
abbrev pub CostsLess : Instance → ℕ → ℕ → ℕ → ℕ → Type 0
CostsLess i unit end a b = (cost_in i unit end a <ℤ cost_in i unit end b) ⊎ ((cost_in i unit end a ≡ cost_in i unit end b) × (a ≤ b))

-- Of the jobs it costs least at the moment, ties to the lesser number.
abbrev pub IsCheapest : Instance → ℕ → ℕ → List ℕ → ℕ → Type 0
IsCheapest i unit end jobs j = All (CostsLess i unit end j) jobs

-- All jobs, each once: the job of a place is the cheapest there of those of this place and of the ones before it.
pub record IsOrderByCost (i : Instance) (unit : ℕ) (places : List Place) (order : List ℕ) : Type 0 where
  pub all : IsPermutation (range_with_len 0 (length i.jobs)) order
  pub cheapest : (k : ℕ) → k < length order → IsCheapest i unit (place_at places k).end (take (k + 1) order) (slice_index_or order k 0)

-- The pieces of the jobs in the earliest places, in that order.
pub record ArePlacedByCost (i : Instance) (unit : ℕ) (pieces : List Piece) : Type 0 where
  pub places : List Place
  pub order : List ℕ
  pub earliest : AreEarliestPlaces i unit places
  pub by_cost : IsOrderByCost i unit places order
  pub are : pieces ≡ placed (length i.jobs) places (λ k. slice_index_or order k 0) (λ k. k)

-- The unit is the least common multiple of the speeds, and over it the jobs run so.
pub record IsByCost (i : Instance) (s : Schedule) : Type 0 where
  pub unit : ℕ
  pub unit_is : s.unit ≡ pos unit
  pub common : IsLeastOfAll i.speeds unit
  pub pieces : ArePlacedByCost i unit s.pieces
