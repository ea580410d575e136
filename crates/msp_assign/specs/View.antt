-- The columns in view: those that rows have, and the first one of each line that no row has. No public contract cites this file.
use Rattle.std.specs.Prelude.{pos, neg_ℤ, ◌≡◌, ◌≢◌, ℕ, ◌+◌, ◌*◌, ◌<◌, ◌≤◌, ◌⊎◌, ℤ, List, [], ◌∷◌, ◌++◌, length, slice_index_or, All, Contains}
use Rattle.msp_assign.specs.Passing.{at}
use Rattle.msp_assign.specs.declared.column.Column.{Column}
use Rattle.msp_assign.specs.Prices.{price_at}
use Rattle.msp_assign.specs.Search.{sizes, IsPlaced, HasUnfallen}

-- What is read where there is no column.
abbrev pub no_column : Column
no_column = record { line = 0; place = 0 }

abbrev pub column_at : List Column → ℕ → Column
column_at columns k = slice_index_or columns k no_column

-- The number of a column, where the lines have `long` columns each.
abbrev pub number_of : ℕ → Column → ℕ
number_of long c = c.line * long + c.place

abbrev pub number_at : ℕ → List Column → ℕ → ℕ
number_at long columns k = number_of long (column_at columns k)

-- The costs of these columns as a table.
abbrev pub seen : (ℕ → ℕ → ℤ) → ℕ → List Column → ℕ → ℕ → ℤ
seen cost long columns r k = cost r (number_at long columns k)

abbrev pub AreInside : ℕ → ℕ → List Column → Type 0
AreInside lines long columns = All (λ c. (c.line < lines) × (c.place < long)) columns

-- The first column of each line.
pub record AreFirst (lines : ℕ) (columns : List Column) : Type 0 where
  pub count : length columns ≡ lines
  pub each : (l : ℕ) → l < lines → ((column_at columns l).line ≡ l) × ((column_at columns l).place ≡ 0)

-- Of each line the columns up to the first one that no row has; `used` are the places in the list of the columns that rows have.
pub record IsView (lines long : ℕ) (columns : List Column) (used : List ℕ) : Type 0 where
  pub inside : AreInside lines long columns
  pub once : (j k : ℕ) → j < length columns → k < length columns → (column_at columns j).line ≡ (column_at columns k).line → (column_at columns j).place ≡ (column_at columns k).place → j ≡ k
  pub behind : (j k : ℕ) → j < length columns → k < length columns
      → (column_at columns j).line ≡ (column_at columns k).line → (column_at columns j).place < (column_at columns k).place → Contains used j
  pub ahead : (l k : ℕ) → l < lines → k < long
      → (j : ℕ) × (j < length columns) × ((column_at columns j).line ≡ l) × ((column_at columns j).place ≤ k) × (((column_at columns j).place ≡ k) ⊎ ¬ Contains used j)

-- The column that is next on the line after `taken`.
abbrev pub column_after : List Column → ℕ → Column
column_after columns taken = record { line = (column_at columns taken).line; place = (column_at columns taken).place + 1 }

-- It has come into view, with price 0, if the line has it.
abbrev pub IsWidened : ℕ → List Column → List ℕ → ℕ → List Column → List ℕ → Type 0
IsWidened long columns falls taken wider wider_falls =
    (((column_after columns taken).place < long) × (wider ≡ columns ++ column_after columns taken ∷ []) × (wider_falls ≡ falls ++ 0 ∷ []))
    ⊎ ((long ≤ (column_after columns taken).place) × (wider ≡ columns) × (wider_falls ≡ falls))

-- All rows have columns in view, each where it pays least there, and some column in view has not fallen. There are no more of them than
-- lines and rows.
pub record IsPlacement (rows lines long : ℕ) (cost : ℕ → ℕ → ℤ) (columns : List Column) (falls used : List ℕ) : Type 0 where
  pub all : length used ≡ rows
  pub placed : IsPlaced (sizes (seen cost long columns)) (length columns) falls used
  pub view : IsView lines long columns used
  pub few : length columns ≤ lines + rows
  pub zero : HasUnfallen (length columns) falls

-- The numbers of the columns of the rows.
pub record AreNumbers (long : ℕ) (columns : List Column) (used numbers : List ℕ) : Type 0 where
  pub size : length numbers ≡ length used
  pub each : (r : ℕ) → r < length used → at numbers r ≡ number_at long columns (at used r)

-- The prices of all columns: those in view are as far below 0 as they fell, and the others 0.
abbrev pub IsPriceBelow : ℕ → List Column → List ℕ → ℕ → ℕ → ℤ → Type 0
IsPriceBelow long columns falls n c price =
    ((k : ℕ) × (k < n) × (number_at long columns k ≡ c) × (price ≡ neg_ℤ (pos (at falls k))))
    ⊎ (((k : ℕ) → k < n → number_at long columns k ≢ c) × (price ≡ pos 0))

pub record AreColumnPrices (count long : ℕ) (columns : List Column) (falls : List ℕ) (prices : List ℤ) : Type 0 where
  pub size : length prices ≡ count
  pub each : (c : ℕ) → c < count → IsPriceBelow long columns falls (length columns) c (price_at prices c)
