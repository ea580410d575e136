-- Jobs put at their places in a list, from the last place to the first, each the cheapest there of itself and of those before it.
use Rattle.std.proofs.Common.{◌≡◌, ℕ, ◌-◌, ◌<◌, ◌≤◌, List, length, get_or, take, swap}
use Rattle.std.proofs.lemmas.List.Sorted.{All-permutation}
use Rattle.msp_instance.specs.declared.Instance.{Instance}
use Rattle.msp_pieces.proofs.lists.InTurn.{AreInTurn, put_next}
use Rattle.msp_places.specs.declared.place.Place.{Place}
use Rattle.msp_places.specs.Places.{place_at}
use Rattle.msp_places.specs.Most.{CostsLess, IsCheapest}

module _ (i : Instance) (unit : ℕ) (places : List Place) where
  abbrev GoesTo : ℕ → List ℕ → ℕ → Type 0
  GoesTo k jobs j = IsCheapest i unit (place_at places k).end jobs j

  abbrev pub GoTo : ℕ → List ℕ → Type 0
  GoTo = AreInTurn GoesTo

  pub placed-next : (order new : List ℕ) (left place : ℕ) → 0 < left → left ≤ length order → place < left → new ≡ swap order place (left - 1)
      → GoesTo (left - 1) (take left order) (get_or (take left order) place 0) → GoTo left order → GoTo (left - 1) new
  placed-next = put_next GoesTo (λ k xs ys j p h. All-permutation (CostsLess i unit (place_at places k).end j) xs ys p h)
