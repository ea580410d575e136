-- Chains of rows, and the nearest one.
use Rattle.std.specs.Prelude.{ℕ, ◌≡◌, ◌<◌, ◌≤◌, Bool, true, IsTrue, List, [], ◌∷◌, length, Contains, Some, IfSome}
use Rattle.msp_class.specs.declared.class.Class.{Class}
use Rattle.msp_table.specs.Rows.{goes_of}

-- A test `usable` on the numbers of rows says which ones a chain may use: all, as here, those that carry schedules, by `carries`,
-- or those that keep size, by `keeps_size`.
abbrev pub every_row : ℕ → Bool
every_row k = true

-- a chain: the rows lead, one after the other, from the first class to the last
pub data Leads (usable : ℕ → Bool) : Class → List ℕ → Class → Type 0 where
  stay : {a : Class} → Leads usable a [] a
  step : {a b c : Class} {k : ℕ} {ks : List ℕ} → IsTrue (usable k) → goes_of k a ≡ Some c → Leads usable c ks b → Leads usable a (k ∷ ks) b

-- some chain leads from the first class to the second
abbrev pub Reaches : (ℕ → Bool) → Class → Class → Type 0
Reaches usable a b = (ks : List ℕ) × Leads usable a ks b

-- the rows lead to a wanted class
pub record LeadsInto (usable : ℕ → Bool) (wanted : List Class) (a : Class) (ks : List ℕ) : Type 0 where
  pub last : Class
  pub is_wanted : Contains wanted last
  pub leads : Leads usable a ks last

-- the length of a shortest chain to a wanted class
pub record IsDistance (usable : ℕ → Bool) (wanted : List Class) (a : Class) (n : ℕ) : Type 0 where
  pub rows : List ℕ
  pub leads : LeadsInto usable wanted a rows
  pub length_is : length rows ≡ n
  pub least : (ks : List ℕ) → LeadsInto usable wanted a ks → n ≤ length ks

-- the row leads to a class at a distance
abbrev pub LeadsAtDistance : (ℕ → Bool) → List Class → Class → ℕ → ℕ → Type 0
LeadsAtDistance usable wanted a n k =
    IsTrue (usable k) × ((c : Class) × (goes_of k a ≡ Some c) × IsDistance usable wanted c n)

-- at each class on the way the row taken is the least that leads to a class nearer by one
abbrev pub TakesLeastRows : (ℕ → Bool) → List Class → Class → List ℕ → Type 0
TakesLeastRows usable wanted a [] = Unit {0}
TakesLeastRows usable wanted a (k ∷ ks) =
    LeadsAtDistance usable wanted a (length ks) k
    × ((j : ℕ) → j < k → ¬ LeadsAtDistance usable wanted a (length ks) j)
    × IfSome (goes_of k a) (λ c. TakesLeastRows usable wanted c ks)

-- the chain to the nearest wanted class
pub record IsNearest (usable : ℕ → Bool) (wanted : List Class) (a : Class) (ks : List ℕ) : Type 0 where
  pub leads : LeadsInto usable wanted a ks
  pub shortest : (js : List ℕ) → LeadsInto usable wanted a js → length ks ≤ length js
  pub least_rows : TakesLeastRows usable wanted a ks
