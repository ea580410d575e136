-- What the steps of the private searches keep. No public contract cites this file.
use Rattle.std.specs.Prelude.{ℕ, ◌≡◌, ◌≢◌, ◌+◌, ◌≤◌, ◌==◌, Bool, false, List, Option, Some, None, if◌then◌else◌, count_by}
use Rattle.msp_class.specs.declared.class.Class.{Class}
use Rattle.msp_table.specs.Rows.{goes_of}
use Rattle.msp_closure.specs.declared.distances.TheConstants.{FAR}
use Rattle.msp_closure.specs.Entries.{IsLedTo}
use Rattle.msp_closure.specs.Tables.{value_of}

-- the class to which a usable row leads
abbrev pub step_of : (ℕ → Bool) → ℕ → Class → Option Class
step_of usable k c = if usable k then goes_of k c else None

-- the row leads to a class with a value
abbrev pub LeadsToValue : (ℕ → Bool) → List ℕ → Class → ℕ → ℕ → Type 0
LeadsToValue usable table c v k = (x : Class) × (step_of usable k c ≡ Some x) × (value_of table x ≡ v)

-- how many classes have no distance yet
abbrev pub far_count : List ℕ → ℕ
far_count table = count_by (λ v. v == FAR) table

-- far classes get the next level, each only where a row leads from it to a class of this level, and nothing else changes
pub record Raises (usable : ℕ → Bool) (before after : List ℕ) (level : ℕ) (changed : Bool) : Type 0 where
  pub keeps : (c : Class) → value_of before c ≢ FAR → value_of after c ≡ value_of before c
  pub reaches : (c : Class) → value_of before c ≡ FAR → value_of after c ≢ FAR
      → (value_of after c ≡ level + 1) × ((k : ℕ) × LeadsToValue usable before c level k)
  pub quiet : changed ≡ false → after ≡ before
  pub falls : far_count after + (if changed then 1 else 0) ≤ far_count before

-- one pass of the breadth walk: among the classes to which chains lead from the starts, a far one gets the next level exactly where a row leads
-- from it to a class of this level
pub record Advances (usable : ℕ → Bool) (starts : List Class) (before after : List ℕ) (level : ℕ) (changed : Bool) : Type 0 where
  pub raises : Raises usable before after level changed
  pub misses : (c : Class) → IsLedTo usable starts c → value_of after c ≡ FAR → (k : ℕ) → ¬ LeadsToValue usable before c level k
