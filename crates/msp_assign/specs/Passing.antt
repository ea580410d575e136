-- Columns that rows pass on along a tree of rows, in which a search has reached them.
use Rattle.std.specs.Prelude.{◌≡◌, ◌≢◌, ℕ, ◌<◌, ◌≤◌, ◌⊎◌, List, length, slice_index_or}
use Rattle.std.specs.List.Sorted.{IsPermutation}

abbrev pub at : List ℕ → ℕ → ℕ
at xs k = slice_index_or xs k 0

-- The rows of a tree: the column of each is reached from the row at a place of the tree, for all but the first from an earlier one.
pub record IsTree (column «from» tree : List ℕ) : Type 0 where
  pub some : 1 ≤ length tree
  pub rows : (k : ℕ) → k < length tree → at tree k < length column
  pub columns : (k : ℕ) → k < length tree → at column (at tree k) < length «from»
  pub apart : (j k : ℕ) → j < k → k < length tree → at tree j ≢ at tree k
  pub within : at «from» (at column (at tree 0)) < length tree
  pub before : (k : ℕ) → 1 ≤ k → k < length tree → at «from» (at column (at tree k)) < k

-- It is the column of a row of the tree.
abbrev pub IsStep : List ℕ → List ℕ → ℕ → Type 0
IsStep column tree c = (k : ℕ) × (k < length tree) × (at column (at tree k) ≡ c)

-- The columns after the walk: a row keeps its column, or has one that is reached from it. The first row has one that is reached from it.
pub record IsPassedOn (column «from» tree next : List ℕ) : Type 0 where
  pub same : IsPermutation column next
  pub each : (r : ℕ) → r < length column → ((r ≢ at tree 0) × (at next r ≡ at column r)) ⊎ ((at tree (at «from» (at next r)) ≡ r) × IsStep column tree (at next r))
