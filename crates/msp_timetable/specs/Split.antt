-- Matrices of times, and the slices that split them.
use Rattle.std.specs.Prelude.{◌≡◌, ℕ, ◌+◌, ◌*◌, ◌<◌, ◌≤◌, ◌^◌, ◌⊎◌, ℤ, pos, ◌+ℤ◌, ◌≤ℤ◌, List, [], ◌∷◌, nat_eq, cond, length, slice_index_or, All}
use Rattle.msp_class.specs.Sums.{int_total_below}
use Rattle.msp_timetable.specs.declared.matrix.Matrix.{Matrix}
use Rattle.msp_timetable.specs.declared.matrix.Slice.{Slice}

-- The cell of a row and a column.
abbrev pub cell : Matrix → ℕ → ℕ → ℤ
cell m r c = slice_index_or m.cells (r * m.columns + c) (pos 0)

abbrev pub row_sum : Matrix → ℕ → ℤ
row_sum m r = int_total_below m.columns (λ c. cell m r c)

abbrev pub column_sum : Matrix → ℕ → ℤ
column_sum m c = int_total_below m.rows (λ r. cell m r c)

-- The most that a row or a column adds up to: at least MOST_JOBS * GREATEST, and so small that all sums fit 128 bits.
abbrev pub greatest_sum : ℕ
greatest_sum = 10 ^ 25

-- All cells are there, none is below 0, and no row and no column adds up to more than that.
pub record IsMatrix (m : Matrix) : Type 0 where
  pub whole : length m.cells ≡ m.rows * m.columns
  pub cells : (r c : ℕ) → r < m.rows → c < m.columns → pos 0 ≤ℤ cell m r c
  pub row_sums : (r : ℕ) → r < m.rows → row_sum m r ≤ℤ pos greatest_sum
  pub column_sums : (c : ℕ) → c < m.columns → column_sum m c ≤ℤ pos greatest_sum

-- The column that a row has in a slice. The number of columns stands for none.
abbrev pub column_of : Slice → ℕ → ℕ
column_of s r = slice_index_or s.column r 0

-- A slice lasts at least 1, says for each row its column or none, and gives no two rows the same column.
pub record IsSlice (rows columns : ℕ) (s : Slice) : Type 0 where
  pub lasts : pos 1 ≤ℤ s.length
  pub all : length s.column ≡ rows
  pub inside : (r : ℕ) → r < rows → column_of s r ≤ columns
  pub apart : (q r : ℕ) → q < r → r < rows → column_of s q ≡ column_of s r → column_of s q ≡ columns

-- What the slices add up to.
abbrev pub total : (Slice → ℤ) → List Slice → ℤ
total f [] = pos 0
total f (s ∷ rest) = f s +ℤ total f rest

-- The length of the slice where the row has the column, else 0.
abbrev pub time_at : ℕ → ℕ → Slice → ℤ
time_at r c s = cond (nat_eq (column_of s r) c) s.length (pos 0)

-- It is the greatest sum of a row or a column.
pub record IsGreatestSum (m : Matrix) (g : ℤ) : Type 0 where
  pub rows : (r : ℕ) → r < m.rows → row_sum m r ≤ℤ g
  pub columns : (c : ℕ) → c < m.columns → column_sum m c ≤ℤ g
  pub line : ((r : ℕ) × (r < m.rows) × (row_sum m r ≡ g)) ⊎ ((c : ℕ) × (c < m.columns) × (column_sum m c ≡ g))

-- The slices split the matrix: each cell is the time for which its row has its column, and no line waits longer than it must.
pub record IsSplit (m : Matrix) (slices : List Slice) : Type 0 where
  pub each : All (IsSlice m.rows m.columns) slices
  pub cells : (r c : ℕ) → r < m.rows → c < m.columns → total (time_at r c) slices ≡ cell m r c
  pub lengths : IsGreatestSum m (total (λ s. s.length) slices)
  pub few : length slices ≤ m.rows * m.columns + 2 * (m.rows + m.columns)
