-- A square of stocks, and the search for a column for each row. No public contract cites this file.
use Rattle.std.specs.Prelude.{◌≡◌, ◌≢◌, ℕ, ◌+◌, ◌-◌, ◌*◌, ◌<◌, ◌≤◌, ◌⊎◌, pos, ◌+ℤ◌, Bool, true, false, cond, nat_lt, nat_eq, List, length, slice_set as set, count_by, All}
use Rattle.msp_class.specs.declared.sizes.TheConstants.{MOST_JOBS}
use Rattle.msp_class.specs.Sums.{total_below}
use Rattle.msp_assign.specs.Passing.{at}
use Rattle.msp_timetable.specs.declared.matrix.Matrix.{Matrix}
use Rattle.msp_timetable.specs.declared.matrix.Slice.{Slice}
use Rattle.msp_timetable.specs.declared.square.Square.{Square}
use Rattle.msp_timetable.specs.Split.{cell, greatest_sum, IsSlice, total, time_at, IsGreatestSum}

-- The cell of a square that stands in a list, row after row.
abbrev pub cell_at : ℕ → List ℕ → ℕ → ℕ → ℕ
cell_at n xs r c = at xs (r * n + c)

-- What a cell holds, its part of the matrix and its padding.
abbrev pub stock : Square → ℕ → ℕ → ℕ
stock s r c = cell_at s.size s.given.items r c + cell_at s.size s.padding.items r c

pub record IsSquare (s : Square) : Type 0 where
  pub small : s.size ≤ MOST_JOBS
  pub given : length s.given.items ≡ s.size * s.size
  pub padding : length s.padding.items ≡ s.size * s.size

-- All rows and columns add up to the same.
pub record IsBalanced (n : ℕ) (f : ℕ → ℕ → ℕ) (left : ℕ) : Type 0 where
  pub rows : (r : ℕ) → r < n → total_below n (λ c. f r c) ≡ left
  pub columns : (c : ℕ) → c < n → total_below n (λ r. f r c) ≡ left

-- Each row has one column, and each column one row.
pub record IsPermuted (n : ℕ) (column : List ℕ) : Type 0 where
  pub size : length column ≡ n
  pub inside : (r : ℕ) → r < n → at column r < n
  pub apart : (q r : ℕ) → q < r → r < n → at column q ≢ at column r

-- The row that has each column.
pub record IsOwners (n : ℕ) (column owner : List ℕ) : Type 0 where
  pub size : length owner ≡ n
  pub each : (c : ℕ) → c < n → (at owner c < n) × (at column (at owner c) ≡ c)

-- A tree of rows that grows: a column is reached where its place is below n.
pub record IsGrowing (n : ℕ) (f : ℕ → ℕ → ℕ) (column «from» tree : List ℕ) : Type 0 where
  pub size : length «from» ≡ n
  pub some : 1 ≤ length tree
  pub rows : (k : ℕ) → k < length tree → at tree k < n
  pub apart : (j k : ℕ) → j < k → k < length tree → at tree j ≢ at tree k
  pub before : (k : ℕ) → 1 ≤ k → k < length tree → (at «from» (at column (at tree k)) < k) × (at «from» (at column (at tree k)) < n)
  pub edges : (c : ℕ) → c < n → at «from» c < n → (at «from» c < length tree) × (0 < f (at tree (at «from» c)) c)

-- The rows of the columns reached are in the tree; all columns are reached that hold stock in the rows before a place, and those before
-- `c` that do in the row there.
pub record IsSearch (n : ℕ) (f : ℕ → ℕ → ℕ) (column : List ℕ) (start place c : ℕ) («from» tree : List ℕ) : Type 0 where
  pub growing : IsGrowing n f column «from» tree
  pub first : at tree 0 ≡ start
  pub bare : f start (at column start) ≡ 0
  pub owned : (d : ℕ) → d < n → at «from» d < n → (k : ℕ) × (1 ≤ k) × (k < length tree) × (at column (at tree k) ≡ d)
  pub here : place ≤ length tree
  pub closed : (j d : ℕ) → j < place → d < n → 0 < f (at tree j) d → at «from» d < n
  pub scanned : (d : ℕ) → d < c → d < n → place < length tree → 0 < f (at tree place) d → at «from» d < n

-- A column was reached whose row holds nothing there.
pub record IsFound (n : ℕ) (f : ℕ → ℕ → ℕ) (column : List ℕ) (start : ℕ) («from» tree : List ℕ) (free : ℕ) : Type 0 where
  pub growing : IsGrowing n f column «from» tree
  pub first : at tree 0 ≡ start
  pub inside : free < n
  pub reached : at «from» free < n
  pub other : (k : ℕ) → 1 ≤ k → k < length tree → at column (at tree k) ≢ free
  pub empty : (r : ℕ) → r < n → at column r ≡ free → f r free ≡ 0

-- One more row holds stock at its column, and each that did before.
pub record IsBetter (n : ℕ) (f : ℕ → ℕ → ℕ) (start : ℕ) (column next : List ℕ) : Type 0 where
  pub permuted : IsPermuted n next
  pub first : 0 < f start (at next start)
  pub others : (r : ℕ) → r < n → 0 < f r (at column r) → 0 < f r (at next r)

-- The stock of a cell that a slice uses: its part of the matrix, and its padding once that is used up.
abbrev pub used : ℕ → ℕ → ℕ
used a p = cond (nat_lt 0 a) a p

abbrev pub used_at : Square → List ℕ → ℕ → ℕ
used_at s column r = used (cell_at s.size s.given.items r (at column r)) (cell_at s.size s.padding.items r (at column r))

-- The least of what the rows use.
pub record IsLeastUsed (s : Square) (column : List ℕ) (d : ℕ) : Type 0 where
  pub least : (r : ℕ) → r < s.size → d ≤ used_at s column r
  pub some : (r : ℕ) × (r < s.size) × (used_at s column r ≡ d)

-- The column that a slice gives to the row.
abbrev pub entry : Square → ℕ → List ℕ → ℕ → ℕ
entry s columns column r = cond (nat_lt 0 (cell_at s.size s.given.items r (at column r))) (at column r) columns

pub record IsEntries (s : Square) (rows columns : ℕ) (column entries : List ℕ) : Type 0 where
  pub all : length entries ≡ rows
  pub each : (r : ℕ) → r < rows → at entries r ≡ entry s columns column r

-- How many stocks are not used up.
abbrev pub stocks : List ℕ → ℕ
stocks xs = count_by (λ x. nat_lt 0 x) xs

-- One cell's stock in use has lost the length, and the other stocks are as before.
pub record IsTaken (s t : Square) (r c d : ℕ) : Type 0 where
  pub square : IsSquare t
  pub size : t.size ≡ s.size
  pub change : ((0 < cell_at s.size s.given.items r c) × (t.given.items ≡ set s.given.items (r * s.size + c) (cell_at s.size s.given.items r c - d)) × (t.padding.items ≡ s.padding.items))
      ⊎ ((cell_at s.size s.given.items r c ≡ 0) × (t.given.items ≡ s.given.items) × (t.padding.items ≡ set s.padding.items (r * s.size + c) (cell_at s.size s.padding.items r c - d)))

-- What a slice takes of a cell's part of the matrix, and of its padding.
abbrev pub given_share : Square → List ℕ → ℕ → ℕ → ℕ → ℕ
given_share s column d r c = cond (nat_eq (at column r) c) (cond (nat_lt 0 (cell_at s.size s.given.items r c)) d 0) 0

abbrev pub padding_share : Square → List ℕ → ℕ → ℕ → ℕ → ℕ
padding_share s column d r c = cond (nat_eq (at column r) c) (cond (nat_lt 0 (cell_at s.size s.given.items r c)) 0 d) 0

-- Each row's stock in use has lost the length, and at least one stock is used up.
pub record IsCut (s t : Square) (column : List ℕ) (d : ℕ) : Type 0 where
  pub square : IsSquare t
  pub size : t.size ≡ s.size
  pub given : (r c : ℕ) → r < s.size → c < s.size → cell_at s.size t.given.items r c + given_share s column d r c ≡ cell_at s.size s.given.items r c
  pub padding : (r c : ℕ) → r < s.size → c < s.size → cell_at s.size t.padding.items r c + padding_share s column d r c ≡ cell_at s.size s.padding.items r c
  pub fewer : stocks t.given.items + stocks t.padding.items + 1 ≤ stocks s.given.items + stocks s.padding.items

-- What a row and a column of a square add up to.
abbrev pub row_total : ℕ → List ℕ → ℕ → ℕ
row_total n xs r = total_below n (λ c. cell_at n xs r c)

abbrev pub column_total : ℕ → List ℕ → ℕ → ℕ
column_total n xs c = total_below n (λ r. cell_at n xs r c)

-- A row of the matrix is copied.
pub record IsSpreadRow (n : ℕ) (m : Matrix) (row : ℕ) (old new : List ℕ) : Type 0 where
  pub size : length new ≡ length old
  pub cells : (c : ℕ) → c < m.columns → pos (cell_at n new row c) ≡ cell m row c
  pub others : (r c : ℕ) → r < n → c < n → (r ≢ row) ⊎ (m.columns ≤ c) → cell_at n new r c ≡ cell_at n old r c
  pub few : stocks new ≤ stocks old + m.columns

-- The matrix is copied, and all other cells are 0.
pub record IsSpread (n : ℕ) (m : Matrix) (given : List ℕ) : Type 0 where
  pub size : length given ≡ n * n
  pub cells : (r c : ℕ) → r < m.rows → c < m.columns → pos (cell_at n given r c) ≡ cell m r c
  pub outside : (r c : ℕ) → r < n → c < n → (m.rows ≤ r) ⊎ (m.columns ≤ c) → cell_at n given r c ≡ 0
  pub few : stocks given ≤ m.rows * m.columns

pub record HasSmallLines (n : ℕ) (given : List ℕ) : Type 0 where
  pub rows : (r : ℕ) → r < n → row_total n given r ≤ greatest_sum
  pub columns : (c : ℕ) → c < n → column_total n given c ≤ greatest_sum

pub record IsGreatest (n : ℕ) (given : List ℕ) (g : ℕ) : Type 0 where
  pub rows : (r : ℕ) → r < n → row_total n given r ≤ g
  pub columns : (c : ℕ) → c < n → column_total n given c ≤ g
  pub line : (g ≡ 0) ⊎ ((l : ℕ) × (l < n) × ((row_total n given l ≡ g) ⊎ (column_total n given l ≡ g)))
  pub low : g ≤ greatest_sum

pub record IsLacking (n : ℕ) (given : List ℕ) (g : ℕ) (rows columns : List ℕ) : Type 0 where
  pub row_size : length rows ≡ n
  pub column_size : length columns ≡ n
  pub each_row : (r : ℕ) → r < n → row_total n given r + at rows r ≡ g
  pub each_column : (c : ℕ) → c < n → column_total n given c + at columns c ≡ g

pub record IsPadding (n : ℕ) (rows columns padding : List ℕ) : Type 0 where
  pub size : length padding ≡ n * n
  pub each_row : (r : ℕ) → r < n → row_total n padding r ≡ at rows r
  pub each_column : (c : ℕ) → c < n → column_total n padding c ≡ at columns c
  pub few : stocks padding ≤ 2 * n

-- The square is filled: each line adds up to the greatest sum of a line.
pub record IsFilled (m : Matrix) (s : Square) (g : ℕ) : Type 0 where
  pub square : IsSquare s
  pub spread : IsSpread s.size m s.given.items
  pub greatest : IsGreatest s.size s.given.items g
  pub balanced : IsBalanced s.size (stock s) g
  pub few : stocks s.given.items + stocks s.padding.items ≤ m.rows * m.columns + 2 * s.size

-- A corner is filled with what its row and its column both lack, and it is said whether the row lacks nothing more.
pub record IsCornerFilled (n i j : ℕ) (old_padding old_rows old_columns new_padding new_rows new_columns : List ℕ) (done : Bool) : Type 0 where
  pub both : ℕ
  pub padding : new_padding ≡ set old_padding (i * n + j) (cell_at n old_padding i j + both)
  pub rows : new_rows ≡ set old_rows i (at old_rows i - both)
  pub columns : new_columns ≡ set old_columns j (at old_columns j - both)
  pub row_most : both ≤ at old_rows i
  pub column_most : both ≤ at old_columns j
  pub yes : done ≡ true → at old_rows i ≡ both
  pub no : done ≡ false → at old_columns j ≡ both

-- Some slices are cut off, and what is left of the square.
pub record IsSplitting (m : Matrix) (s : Square) (column owner : List ℕ) (slices : List Slice) (left : ℕ) : Type 0 where
  pub square : IsSquare s
  pub rows : m.rows ≤ s.size
  pub columns : m.columns ≤ s.size
  pub most : s.size ≤ m.rows + m.columns
  pub permuted : IsPermuted s.size column
  pub owners : IsOwners s.size column owner
  pub balanced : IsBalanced s.size (stock s) left
  pub outside : (r c : ℕ) → r < s.size → c < s.size → (m.rows ≤ r) ⊎ (m.columns ≤ c) → cell_at s.size s.given.items r c ≡ 0
  pub each : All (IsSlice m.rows m.columns) slices
  pub cells : (r c : ℕ) → r < m.rows → c < m.columns → total (time_at r c) slices +ℤ pos (cell_at s.size s.given.items r c) ≡ cell m r c
  pub lengths : IsGreatestSum m (total (λ x. x.length) slices +ℤ pos left)
  pub low : left ≤ greatest_sum
  pub few : stocks s.given.items + stocks s.padding.items + length slices ≤ m.rows * m.columns + 2 * s.size
