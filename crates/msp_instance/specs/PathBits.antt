-- What is kept while the bits of paths are set. No public contract cites this file.
use Rattle.std.specs.Prelude.{◌≡◌, ◌≢◌, ℕ, ◌+◌, ◌/◌, ◌<◌, ◌≤◌, ◌⊎◌, true, List, length, slice_index_or, bit_or, All, AllPairs, Contains, IsTrue, ◌↔◌}
use Rattle.msp_instance.specs.declared.Arc.{Arc}
use Rattle.msp_instance.specs.Conditions.{GoesForward}
use Rattle.msp_instance.specs.Bits.{has_bit}
use Rattle.msp_instance.specs.Paths.{HasPath}

-- Words from a place on are joined to those from another place on, and the others stay.
pub record JoinsWords (count to from : ℕ) (before after : List ℕ) : Type 0 where
  pub joined : (k : ℕ) → k < count → slice_index_or after (to + k) 0 ≡ bit_or (slice_index_or before (to + k) 0) (slice_index_or before (from + k) 0)
  pub others : (i : ℕ) → (i < to) ⊎ (to + count ≤ i) → slice_index_or after i 0 ≡ slice_index_or before i 0

-- One bit is set, and the others stay.
pub record SetsBit (width from to : ℕ) (before after : List ℕ) : Type 0 where
  pub is_set : has_bit after width from to ≡ true
  pub kept : (j k : ℕ) → k / 64 < width → has_bit before width j k ≡ true → has_bit after width j k ≡ true
  pub others : (j k : ℕ) → k / 64 < width → has_bit after width j k ≡ true → (has_bit before width j k ≡ true) ⊎ ((j ≡ from) × (k ≡ to))

-- The arc's job before has also the bits that its job after had, and this job's; no bit is set beside them, and none goes.
pub record Follows (width : ℕ) (a : Arc) (before after : List ℕ) : Type 0 where
  pub kept : (j k : ℕ) → k / 64 < width → has_bit before width j k ≡ true → has_bit after width j k ≡ true
  pub is_set : has_bit after width a.before a.after ≡ true
  pub joined : (k : ℕ) → k / 64 < width → has_bit before width a.after k ≡ true → has_bit after width a.before k ≡ true
  pub only : (j k : ℕ) → k / 64 < width → has_bit after width j k ≡ true → (has_bit before width j k ≡ true) ⊎ ((j ≡ a.before) × ((k ≡ a.after) ⊎ (has_bit before width a.after k ≡ true)))

-- The same for some arcs: what is set is kept, each arc and what its job after had is added, and where the bits were bits of paths they are so still.
pub record FollowsAll (width : ℕ) (passed : List Arc) (before after : List ℕ) : Type 0 where
  pub whole : length after ≡ length before
  pub kept : (j k : ℕ) → k / 64 < width → has_bit before width j k ≡ true → has_bit after width j k ≡ true
  pub is_set : All (λ a. has_bit after width a.before a.after ≡ true) passed
  pub joined : (k : ℕ) → k / 64 < width → All (λ a. has_bit before width a.after k ≡ true → has_bit after width a.before k ≡ true) passed
  pub only : (arcs : List Arc) → All (λ a. Contains arcs a) passed → ((j k : ℕ) → k / 64 < width → has_bit before width j k ≡ true → HasPath arcs j k)
      → (j k : ℕ) → k / 64 < width → has_bit after width j k ≡ true → HasPath arcs j k

-- The jobs, each once, in an order in which the arcs go forward.
pub record IsOrder (order : List ℕ) (arcs : List Arc) : Type 0 where
  pub inside : All (λ j. j < length order) order
  pub each : (j : ℕ) → j < length order → Contains order j
  pub apart : AllPairs (λ j k. j ≢ k) order
  pub ends : All (λ a. (a.before < length order) × (a.after < length order)) arcs
  pub forward : All (GoesForward order) arcs

-- The words have exactly the bits of paths.
abbrev pub HasPathBits : List ℕ → List Arc → ℕ → List ℕ → Type 0
HasPathBits order arcs width words = (j k : ℕ) → j < length order → k < length order → IsTrue (has_bit words width j k) ↔ HasPath arcs j k
