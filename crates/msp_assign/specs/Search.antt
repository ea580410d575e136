-- The search for a free column for one more row, from the columns and prices of the rows before it, among the columns in view. No public
-- contract cites this file.
use Rattle.std.specs.Prelude.{pos, ◌≡◌, ◌≢◌, ℕ, ◌+◌, ◌-◌, ◌<◌, ◌≤◌, ◌≤ℤ◌, ◌*◌, ◌⊎◌, ℤ, List, [], ◌∷◌, ◌++◌, Option, None, length, slice_index_or, unsigned_abs, MatchOption, All, AllPairs, Contains}
use Rattle.std.specs.List.Sorted.{IsPermutation}
use Rattle.msp_class.specs.declared.list.TheConstants.{PLACES}
use Rattle.msp_assign.specs.Passing.{at}
use Rattle.msp_assign.specs.declared.search.Search.{Search}
use Rattle.msp_assign.specs.declared.search.TheConstants.{FAR}
use Rattle.msp_assign.specs.Prices.{greatest_cost, price_at}

-- The most that a row is charged at a column: a cost, and a price that begins as far below 0.
abbrev pub greatest_charge : ℕ
greatest_charge = 2 * greatest_cost

abbrev pub HasCharges : ℕ → ℕ → (ℕ → ℕ → ℤ) → Type 0
HasCharges rows columns cost = (r c : ℕ) → r < rows → c < columns → (pos 0 ≤ℤ cost r c) × (cost r c ≤ℤ pos greatest_charge)

abbrev pub sizes : (ℕ → ℕ → ℤ) → ℕ → ℕ → ℕ
sizes cost r c = unsigned_abs (cost r c)

-- What a row pays at a column: what it is charged, and how far the column's price is below 0.
abbrev pub paid : (ℕ → ℕ → ℕ) → List ℕ → ℕ → ℕ → ℕ
paid cost fall r c = cost r c + at fall c

-- The most that a row pays at a column, and that the search goes: a charge, and a price as far below 0.
abbrev pub greatest_payment : ℕ
greatest_payment = 2 * greatest_charge

-- The row pays at no column less than at c.
pub record IsCheapest (cost : ℕ → ℕ → ℕ) (columns : ℕ) (fall : List ℕ) (r c : ℕ) : Type 0 where
  pub cheapest : (d : ℕ) → d < columns → paid cost fall r c ≤ paid cost fall r d

-- The rows so far have columns of their own, each where it pays least. Only a column that a row has is priced.
pub record IsPlaced (cost : ℕ → ℕ → ℕ) (columns : ℕ) (fall column : List ℕ) : Type 0 where
  pub size : length fall ≡ columns
  pub low : (c : ℕ) → c < columns → at fall c ≤ greatest_charge
  pub inside : All (λ c. c < columns) column
  pub apart : AllPairs (λ c d. c ≢ d) column
  pub cheapest : (r : ℕ) → r < length column → IsCheapest cost columns fall r (at column r)
  pub unused : (c : ℕ) → c < columns → ¬ Contains column c → at fall c ≡ 0

-- Some column has not fallen.
abbrev pub HasUnfallen : ℕ → List ℕ → Type 0
HasUnfallen columns fall = (c : ℕ) × (c < columns) × (at fall c ≡ 0)

-- One row more is to have a column: those before it have theirs, and some column is free.
pub record IsOpenRow (rows columns : ℕ) (cost : ℕ → ℕ → ℤ) (fall column : List ℕ) : Type 0 where
  pub costs : HasCharges rows columns cost
  pub placed : IsPlaced (sizes cost) columns fall column
  pub next : length column < rows
  pub free : (c : ℕ) × (c < columns) × ¬ Contains column c
  pub few : length column < PLACES

-- The row that has each column.
pub record IsOwners (columns : ℕ) (column : List ℕ) (owner : List (Option ℕ)) : Type 0 where
  pub size : length owner ≡ columns
  pub each : (c : ℕ) → c < columns → MatchOption (slice_index_or owner c None) (¬ Contains column c) (λ r. (r < length column) × (at column r ≡ c))

-- The rows that the search has reached, the new one first: each column is reached from the row at a place of the tree, and the column
-- of a row of the tree from an earlier row.
pub record IsGrown (columns : ℕ) (column «from» tree : List ℕ) : Type 0 where
  pub size : length «from» ≡ columns
  pub some : 1 ≤ length tree
  pub first : at tree 0 ≡ length column
  pub rows : (k : ℕ) → 1 ≤ k → k < length tree → at tree k < length column
  pub apart : (j k : ℕ) → j < k → k < length tree → at tree j ≢ at tree k
  pub before : (k : ℕ) → 1 ≤ k → k < length tree → at «from» (at column (at tree k)) < k
  pub within : (c : ℕ) → c < columns → at «from» c < length tree

-- No column is farther than c by more than what the row pays there beyond what it pays at c.
pub record IsLevel (cost : ℕ → ℕ → ℕ) (columns : ℕ) (fall distance : List ℕ) (r c : ℕ) : Type 0 where
  pub level : (d : ℕ) → d < columns → at distance d + paid cost fall r c ≤ at distance c + paid cost fall r d

-- All columns, in order.
pub record AreAll (columns : ℕ) (left : List ℕ) : Type 0 where
  pub size : length left ≡ columns
  pub each : (c : ℕ) → c < columns → at left c ≡ c

-- Of the columns that are left, the first `near` are so far, and none is nearer.
pub record AreNearest (distance left : List ℕ) (near far : ℕ) : Type 0 where
  pub inside : near ≤ length left
  pub same : (j : ℕ) → j < near → at distance (at left j) ≡ far
  pub least : (j : ℕ) → j < length left → far ≤ at distance (at left j)

-- Of the columns that are left, those up to place k of the list are the nearest.
abbrev pub IsNearest : List ℕ → List ℕ → ℕ → Type 0
IsNearest distance left k = AreNearest distance left (k + 1) (at distance (at left k))

-- The columns of the rows of the tree are settled: their distances are final. The others are left.
pub record IsSearch (cost : ℕ → ℕ → ℕ) (columns : ℕ) (fall column distance «from» left tree : List ℕ) : Type 0 where
  pub grown : IsGrown columns column «from» tree
  pub distances : length distance ≡ columns
  pub inside : All (λ c. c < columns) left
  pub apart : AllPairs (λ c d. c ≢ d) left
  pub own : (k : ℕ) → 1 ≤ k → k < length tree → ¬ Contains left (at column (at tree k))
  pub owned : (c : ℕ) → c < columns → Contains left c ⊎ ((k : ℕ) × (1 ≤ k) × (k < length tree) × (at column (at tree k) ≡ c))
  pub level_own : (k : ℕ) → 1 ≤ k → k < length tree → IsLevel cost columns fall distance (at tree k) (at column (at tree k))
  pub level : (c : ℕ) → c < columns → IsLevel cost columns fall distance (at tree (at «from» c)) c
  pub nearer : (c d : ℕ) → c < columns → ¬ Contains left c → Contains left d → at distance c ≤ at distance d
  pub low : (c : ℕ) → c < columns → at distance c ≤ greatest_payment

-- The search goes on at the nearest columns.
pub record IsUnderWay (cost : ℕ → ℕ → ℕ) (columns : ℕ) (fall column : List ℕ) (s : Search) : Type 0 where
  pub search : IsSearch cost columns fall column s.distance.items s.from.items s.left.items s.tree.items
  pub nearest : IsNearest s.distance.items s.left.items s.nearest

-- A row that was reached pays at its own column no more than at any.
pub record HasEdges (rows columns : ℕ) (cost : ℕ → ℕ → ℤ) (fall : List ℕ) (r depth own : ℕ) : Type 0 where
  pub costs : HasCharges rows columns cost
  pub falls : length fall ≡ columns
  pub low : (c : ℕ) → c < columns → at fall c ≤ greatest_charge
  pub inside : r < rows
  pub near : depth ≤ greatest_payment
  pub least : (c : ℕ) → c < columns → own ≤ paid (sizes cost) fall r c

-- A column is so far over that row: as far as the row's own column, and what the row pays more there.
abbrev pub IsWay : (ℕ → ℕ → ℕ) → List ℕ → ℕ → ℕ → ℕ → ℕ → ℕ → Type 0
IsWay cost fall r depth own c far = far + own ≡ depth + paid cost fall r c

-- A row that was reached: its place in the tree, how far it is, and what it pays at its own column.
pub record IsRelaxedAt (cost : ℕ → ℕ → ℕ) (fall : List ℕ) (r place depth own : ℕ) (distance «from» next next_from : List ℕ) (c : ℕ) : Type 0 where
  pub fewer : at next c ≤ at distance c
  pub close : at next c + own ≤ depth + paid cost fall r c
  pub change : ((at next c ≡ at distance c) × (at next_from c ≡ at «from» c)) ⊎ ((at next_from c ≡ place) × IsWay cost fall r depth own c (at next c))

-- The distances after the edges of that row to the columns that are left.
pub record IsRelaxed (cost : ℕ → ℕ → ℕ) (fall : List ℕ) (r place depth own : ℕ) (left distance «from» next next_from : List ℕ) : Type 0 where
  pub each : (c : ℕ) → Contains left c → IsRelaxedAt cost fall r place depth own distance «from» next next_from c
  pub others : (c : ℕ) → ¬ Contains left c → (at next c ≡ at distance c) × (at next_from c ≡ at «from» c)

-- One column's distance is the lesser of what it was and `far`, over the place of the tree where that is less.
pub record IsShortened (far place : ℕ) (distance «from» next next_from : List ℕ) (c shortest : ℕ) : Type 0 where
  pub here : at next c ≡ shortest
  pub fewer : shortest ≤ at distance c
  pub close : shortest ≤ far
  pub change : ((at next c ≡ at distance c) × (at next_from c ≡ at «from» c)) ⊎ ((at next_from c ≡ place) × (at next c ≡ far))
  pub others : (e : ℕ) → e ≢ c → (at next e ≡ at distance e) × (at next_from e ≡ at «from» e)

-- As far as the columns that are as near as the row, where there are some of them; else farther than any.
abbrev pub IsLeastSoFar : ℕ → ℕ → ℕ → Type 0
IsLeastSoFar near depth least = ((near ≡ 0) × (least ≡ FAR)) ⊎ ((1 ≤ near) × (least ≡ depth))

-- The prices after the search: the columns of the rows of the tree fall by as much as they are nearer than d.
pub record IsLowered (d : ℕ) (distance column tree fall next : List ℕ) : Type 0 where
  pub size : length next ≡ length fall
  pub reached : (k : ℕ) → 1 ≤ k → k < length tree → at next (at column (at tree k)) ≡ at fall (at column (at tree k)) + (d - at distance (at column (at tree k)))
  pub others : (c : ℕ) → ((k : ℕ) → 1 ≤ k → k < length tree → at column (at tree k) ≢ c) → at next c ≡ at fall c

-- One more row has a column: one that was free, which keeps its price.
pub record IsOneMore (columns : ℕ) (column fall after : List ℕ) (free : ℕ) : Type 0 where
  pub same : IsPermutation (column ++ free ∷ []) after
  pub inside : free < columns
  pub free_before : ¬ Contains column free
  pub unfallen : at fall free ≡ 0

-- The prices of the rows: what each pays at its column.
pub record IsRowPrices (cost : ℕ → ℕ → ℕ) (fall column : List ℕ) (prices : List ℤ) : Type 0 where
  pub size : length prices ≡ length column
  pub each : (r : ℕ) → r < length column → price_at prices r ≡ pos (paid cost fall r (at column r))
