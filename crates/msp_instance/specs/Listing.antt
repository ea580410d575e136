-- What the functions that put jobs into order, and that search for cycles, keep. No public contract cites this file.
use Rattle.std.specs.Prelude.{◌≡◌, ◌≢◌, ℕ, ◌<◌, Bool, not, ◌==◌, ◌&&◌, cond, List, length, slice_index, All, AllPairs, Any, Contains, ◌⊎◌, count_by, take}
use Rattle.std.specs.List.{list_any}
use Rattle.msp_instance.specs.declared.Arc.{Arc}
use Rattle.msp_instance.specs.Paths.{HasStep}

-- The list has each number below n that passes the test once, and no other number.
pub record IsListing (n : ℕ) (test : ℕ → Bool) (xs : List ℕ) : Type 0 where
  pub inside : All (λ x. x < n) xs
  pub each : (k : ℕ) → k < n → count_by (λ x. x == k) xs ≡ cond (test k) 1 0

-- How many arcs enter a job from jobs outside the list.
abbrev pub waiting : List Arc → List ℕ → ℕ → ℕ
waiting arcs xs k = count_by (λ a. a.after == k && not (list_any (λ x. x == a.before) xs)) arcs

-- Jobs in order, as far as one can be found: every arc into a job of the list comes from a job earlier in it, and every job that is left has an arc from one that is left.
pub record IsLongestOrder (arcs : List Arc) (n : ℕ) (order : List ℕ) : Type 0 where
  pub inside : All (λ j. j < n) order
  pub apart : AllPairs (λ j k. j ≢ k) order
  pub early : (j q : ℕ) → q < length order → HasStep arcs j (slice_index order q) → Contains (take q order) j
  pub left : (k : ℕ) → k < n → ¬ Contains order k → (j : ℕ) × HasStep arcs j k × (¬ Contains order j)

-- A job stood in the list, or one of the arcs leads to it.
abbrev pub IsMet : List ℕ → List Arc → ℕ → Type 0
IsMet old leaving k = Contains old k ⊎ Any (λ a. a.after ≡ k) leaving
