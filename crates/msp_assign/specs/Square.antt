-- As many columns as rows, with prices of the columns to begin from. No public contract cites this file.
use Rattle.std.specs.Prelude.{pos, ◌≡◌, ℕ, ◌+◌, ◌<◌, ◌≤◌, ℤ, ◌+ℤ◌, Bool, true, false, List, length, slice_index_or, Contains, ◌⊎◌, Some, IfSome}
use Rattle.msp_assign.specs.Passing.{at}
use Rattle.msp_assign.specs.declared.square.Cheapest.{Cheapest}
use Rattle.msp_assign.specs.Search.{IsCheapest}

-- The costs, at each column more by as much as its price begins below 0.
abbrev pub raised : (ℕ → ℕ → ℤ) → List ℕ → ℕ → ℕ → ℤ
raised cost begun r c = cost r c +ℤ pos (at begun c)

abbrev pub is_taken : List Bool → ℕ → Bool
is_taken taken c = slice_index_or taken c true

-- A column that no row has is the only one that may be marked as free.
pub record AreMarked (columns : ℕ) (column : List ℕ) (taken : List Bool) : Type 0 where
  pub size : length taken ≡ columns
  pub free : (c : ℕ) → c < columns → is_taken taken c ≡ false → ¬ Contains column c

-- One column more has come to those where a row pays least.
pub record IsCheaper (best : Cheapest) (price column : ℕ) (taken : Bool) (next : Cheapest) : Type 0 where
  pub before : next.paid ≤ best.paid
  pub close : next.paid ≤ price
  pub found : IfSome next.column (λ c. ((c ≡ column) × (next.paid ≡ price) × (taken ≡ false)) ⊎ ((best.column ≡ Some c) × (next.paid ≡ best.paid)))

-- The row pays at no column less than at this one, which is marked as free.
pub record IsFreeCheapest (cost : ℕ → ℕ → ℕ) (columns : ℕ) (fall : List ℕ) (taken : List Bool) (r c : ℕ) : Type 0 where
  pub inside : c < columns
  pub free : is_taken taken c ≡ false
  pub cheapest : IsCheapest cost columns fall r c

-- The least so far that columns have fallen together with their beginning.
pub record IsLeastTogether (fall begun : List ℕ) (n low : ℕ) : Type 0 where
  pub least : (c : ℕ) → c < n → low ≤ at fall c + at begun c
  pub attained : (c : ℕ) × (c < n) × (at fall c + at begun c ≡ low)

-- Together with their beginning, each less by the least.
pub record AreNormal (fall begun : List ℕ) (least : ℕ) (next : List ℕ) : Type 0 where
  pub size : length next ≡ length fall
  pub each : (c : ℕ) → c < length fall → at next c + least ≡ at fall c + at begun c
