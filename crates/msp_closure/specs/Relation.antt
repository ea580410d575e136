-- A relation between classes, kept as bits, and what the passes over its rows keep. No public contract cites this file.
use Rattle.std.specs.Prelude.{ℕ, ◌≡◌, ◌≢◌, ◌+◌, ◌-◌, ◌*◌, ◌/◌, ◌%◌, ◌^◌, ◌<◌, ◌≤◌, ◌==◌, ◌||◌, Bool, true, false, List, Some, if◌then◌else◌, slice_index, sum_by, bit_or}
use Rattle.std.specs.Int.{bit_at}
use Rattle.msp_class.specs.declared.class.Class.{Class}
use Rattle.msp_class.specs.Rank.{rank_of}
use Rattle.msp_table.specs.Chains.{Reaches}
use Rattle.msp_closure.specs.declared.relation.TheConstants.{WIDTH}
use Rattle.msp_closure.specs.Tables.{is_flagged}
use Rattle.msp_closure.specs.Walk.{step_of}

-- whether the words relate the first class to the second: the row of the first class has the bit of the second
unfoldable pub relates : List ℕ → Class → Class → Bool
relates words a b = bit_at (slice_index words (rank_of a * WIDTH + rank_of b / 64)) (rank_of b % 64) == 1

-- the words relate exactly the classes that a chain joins
pub record IsReach (usable : ℕ → Bool) (words : List ℕ) : Type 0 where
  pub sound : (a b : Class) → relates words a b ≡ true → Reaches usable a b
  pub all : (a b : Class) → Reaches usable a b → relates words a b ≡ true

-- how far the words are from having every bit
abbrev pub room : List ℕ → ℕ
room words = sum_by (λ w. 2 ^ 64 - w) words

-- more bits are set, or nothing changed
pub record Rises (before after : List ℕ) (changed : Bool) : Type 0 where
  pub quiet : changed ≡ false → after ≡ before
  pub falls : room after + (if changed then 1 else 0) ≤ room before

-- one row of words is joined to another, and the other rows stay
pub record JoinsWords (before after : List ℕ) (to from : ℕ) : Type 0 where
  pub joined : (k : ℕ) → k < WIDTH
      → slice_index after (to * WIDTH + k) ≡ bit_or (slice_index before (to * WIDTH + k)) (slice_index before (from * WIDTH + k))
  pub below : (i : ℕ) → i < to * WIDTH → slice_index after i ≡ slice_index before i
  pub above : (i : ℕ) → to * WIDTH + WIDTH ≤ i → slice_index after i ≡ slice_index before i

-- one class is related also to all to which another is related, and the other classes stay
pub record Joins (before after : List ℕ) (to from : Class) : Type 0 where
  pub joined : (b : Class) → relates after to b ≡ (relates before to b || relates before from b)
  pub others : (a b : Class) → rank_of a ≢ rank_of to → relates after a b ≡ relates before a b

-- the first class is related to all to which the second is
abbrev pub Includes : List ℕ → Class → Class → Type 0
Includes words a c = (b : Class) → relates words c b ≡ true → relates words a b ≡ true

-- whatever is related is joined by a chain
abbrev pub IsSound : (ℕ → Bool) → List ℕ → Type 0
IsSound usable words = (a b : Class) → relates words a b ≡ true → Reaches usable a b

-- the rows are joined along rows of the table
pub record Grows (usable : ℕ → Bool) (before after : List ℕ) : Type 0 where
  pub keeps : (a b : Class) → relates before a b ≡ true → relates after a b ≡ true
  pub sound : IsSound usable before → IsSound usable after

-- the class is related to all to which those are that a usable row leads to, but for classes with a flag
abbrev pub IsClosedBut : (ℕ → Bool) → List Bool → List ℕ → Class → Type 0
IsClosedBut usable flags words a = (k : ℕ) (c : Class) → step_of usable k a ≡ Some c → is_flagged flags c ≡ false → Includes words a c

-- the rows are joined along rows of the table, and only the row of one class changes
pub record GrowsAt (usable : ℕ → Bool) (before after : List ℕ) (a : Class) : Type 0 where
  pub grows : Grows usable before after
  pub others : (x b : Class) → rank_of x ≢ rank_of a → relates after x b ≡ relates before x b

-- where a row of the table leads from the class to a flagged one, the class is related to all to which that is
abbrev pub IncludesFlagged : (ℕ → Bool) → List Bool → List ℕ → Class → ℕ → Type 0
IncludesFlagged usable flags words a k = (c : Class) → step_of usable k a ≡ Some c → is_flagged flags c ≡ true → Includes words a c
