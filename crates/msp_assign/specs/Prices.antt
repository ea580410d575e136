-- Assignments of rows to columns, and the prices that show one to be least.
use Rattle.std.specs.Prelude.{◌≡◌, ◌≢◌, ℕ, ◌<◌, ◌≤◌, ◌^◌, ℤ, pos, ◌+ℤ◌, ◌≤ℤ◌, List, length, slice_index_or, All, AllPairs, Contains}
use Rattle.msp_class.specs.Sums.{int_total_below}
use Rattle.msp_assign.specs.declared.assignment.Assignment.{Assignment}

-- The most that a row costs at a column. What all rows pay together, each twice as much, has to fit 128 bits.
abbrev pub greatest_cost : ℕ
greatest_cost = 2 ^ 100

-- Every cost is at least 0, and at most 2^100.
abbrev pub HasCosts : ℕ → ℕ → (ℕ → ℕ → ℤ) → Type 0
HasCosts rows columns cost = (r c : ℕ) → r < rows → c < columns → (pos 0 ≤ℤ cost r c) × (cost r c ≤ℤ pos greatest_cost)

-- The most that a column's price may begin below 0.
abbrev pub greatest_fall : ℕ
greatest_fall = 2 ^ 100

-- How far below 0 the prices of the columns begin.
pub record AreFalls (columns : ℕ) (falls : List ℕ) : Type 0 where
  pub size : length falls ≡ columns
  pub low : (c : ℕ) → c < columns → slice_index_or falls c 0 ≤ greatest_fall

-- Each row has a column of its own: the columns of the rows, in order of the rows.
pub record IsAssigned (rows columns : ℕ) (column : List ℕ) : Type 0 where
  pub all : length column ≡ rows
  pub inside : All (λ c. c < columns) column
  pub apart : AllPairs (λ c d. c ≢ d) column

abbrev pub column_of : List ℕ → ℕ → ℕ
column_of column r = slice_index_or column r 0

abbrev pub price_at : List ℤ → ℕ → ℤ
price_at prices k = slice_index_or prices k (pos 0)

-- The prices of a row and a column add up to at most the cost, and to the cost where the row has the column. No column price is above 0,
-- and that of a column that no row has is 0.
pub record IsPriced (rows columns : ℕ) (cost : ℕ → ℕ → ℤ) (a : Assignment) : Type 0 where
  pub row_prices : length a.row_price ≡ rows
  pub column_prices : length a.column_price ≡ columns
  pub at_most : (r c : ℕ) → r < rows → c < columns → (price_at a.row_price r +ℤ price_at a.column_price c) ≤ℤ cost r c
  pub exact : (r : ℕ) → r < rows → price_at a.row_price r +ℤ price_at a.column_price (column_of a.column r) ≡ cost r (column_of a.column r)
  pub low : (c : ℕ) → c < columns → price_at a.column_price c ≤ℤ pos 0
  pub unused : (c : ℕ) → c < columns → ¬ Contains a.column c → price_at a.column_price c ≡ pos 0

-- Some column price is 0.
abbrev pub HasFreeColumn : ℕ → Assignment → Type 0
HasFreeColumn columns a = (c : ℕ) × (c < columns) × (price_at a.column_price c ≡ pos 0)

-- What the rows cost together, each at its column.
abbrev pub cost_of : ℕ → (ℕ → ℕ → ℤ) → List ℕ → ℤ
cost_of rows cost column = int_total_below rows (λ r. cost r (column_of column r))

-- No assignment costs less.
abbrev pub IsLeast : ℕ → ℕ → (ℕ → ℕ → ℤ) → List ℕ → Type 0
IsLeast rows columns cost column = (other : List ℕ) → IsAssigned rows columns other → cost_of rows cost column ≤ℤ cost_of rows cost other

-- All prices together.
abbrev pub price_of : ℕ → ℕ → Assignment → ℤ
price_of rows columns a = int_total_below rows (price_at a.row_price) +ℤ int_total_below columns (price_at a.column_price)
