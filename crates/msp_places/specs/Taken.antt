-- Places that are taken in turn, each the earliest that is left. No public contract cites this file.
use Rattle.std.specs.Prelude.{◌≡◌, ℕ, ◌+◌, ◌<◌, ◌≤◌, List, length, slice_index_or, slice_set, All, AllPairs, Contains}
use Rattle.msp_places.specs.declared.place.Place.{Place}
use Rattle.msp_places.specs.Places.{place_on, place_at, IsPlace, ComesFirst}

-- The place at k ends first of the list, and no place before it ends as early.
pub record IsFirstPlace (places : List Place) (k : ℕ) : Type 0 where
  pub inside : k < length places
  pub least : (m : ℕ) → m < length places → (place_at places k).end ≤ (place_at places m).end
  pub first : (m : ℕ) → m < k → (place_at places k).end < (place_at places m).end

-- The places of rank 1 of all machines.
pub record AreFirst (lengths : List ℕ) (first : List Place) : Type 0 where
  pub count : length first ≡ length lengths
  pub each : (m : ℕ) → m < length lengths → place_at first m ≡ place_on lengths m 1

-- The place behind one on its machine, where a job takes the time there.
abbrev pub behind : Place → ℕ → Place
behind p long = record { machine = p.machine; rank = p.rank + 1; begin = p.end; end = p.end + long }

-- Of the next places of the machines the first one is taken, and the one behind it becomes the next of its machine.
pub record TakesTurn (lengths : List ℕ) (before : List Place) (place : Place) (after : List Place) : Type 0 where
  pub machine : ℕ
  pub first : IsFirstPlace before machine
  pub is : place ≡ place_at before machine
  pub next : after ≡ slice_set before machine (behind place (slice_index_or lengths machine 0))

-- The places that were taken, in turn, and the next one of each machine: those before it are taken.
pub record AreTaken (lengths : List ℕ) (taken next : List Place) : Type 0 where
  pub each : All (IsPlace lengths (length taken)) taken
  pub order : AllPairs ComesFirst taken
  pub count : length next ≡ length lengths
  pub places : (m : ℕ) → m < length lengths → place_at next m ≡ place_on lengths m (place_at next m).rank
  pub some : (m : ℕ) → m < length lengths → 1 ≤ (place_at next m).rank
  pub few : (m : ℕ) → m < length lengths → (place_at next m).rank ≤ length taken + 1
  pub before : (m : ℕ) → m < length lengths → All (λ p. ComesFirst p (place_at next m)) taken
  pub whole : (m rank : ℕ) → m < length lengths → 1 ≤ rank → rank < (place_at next m).rank → Contains taken (place_on lengths m rank)
