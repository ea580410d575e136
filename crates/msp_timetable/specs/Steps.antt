-- The steps of the splitting, in the words of the structs that they work on. No public contract cites this file.
use Rattle.std.specs.Prelude.{ℕ, ◌+◌, ◌<◌, ◌≤◌, Bool, List}
use Rattle.msp_assign.specs.Passing.{at}
use Rattle.msp_timetable.specs.declared.matrix.Matrix.{Matrix}
use Rattle.msp_timetable.specs.declared.matrix.Slice.{Slice}
use Rattle.msp_timetable.specs.declared.square.Square.{Square}
use Rattle.msp_timetable.specs.declared.filling.Lacks.{Lacks}
use Rattle.msp_timetable.specs.declared.search.Seats.{Seats}
use Rattle.msp_timetable.specs.declared.search.Search.{Search}
use Rattle.msp_timetable.specs.Square.{cell_at, stock, used, IsSearch, IsFound, IsBetter, IsCornerFilled, IsSplitting}

-- The row from which the search goes.
abbrev pub start_of : Search → ℕ
start_of s = at s.tree.items 0

-- The search from the row has reached what the rows before the place lead to, and of the row there what the columns before `c` say.
abbrev pub Reaches : Square → Seats → ℕ → ℕ → ℕ → Search → Type 0
Reaches square seats start place c s = IsSearch square.size (stock square) seats.columns.items start place c s.from.items s.tree.items

-- The search from the row has found a column whose row holds nothing there.
abbrev pub Finds : Square → Seats → ℕ → Search → Type 0
Finds square seats start s = IsFound square.size (stock square) seats.columns.items start s.from.items s.tree.items s.free

-- The row holds stock at its column afterwards, as each does that did before.
abbrev pub Betters : Square → ℕ → Seats → Seats → Type 0
Betters square row old new = IsBetter square.size (stock square) row old.columns.items new.columns.items

-- Each row holds stock at its column.
abbrev pub HoldStock : Square → Seats → Type 0
HoldStock square seats = (r : ℕ) → r < square.size → 0 < stock square r (at seats.columns.items r)

-- What a slice uses of a cell.
abbrev pub used_in : Square → ℕ → ℕ → ℕ
used_in s r c = used (cell_at s.size s.given.items r c) (cell_at s.size s.padding.items r c)

-- The cell has taken as much as its row and its column both lacked; the answer says whether the row lacks nothing more.
abbrev pub FillsCorner : ℕ → ℕ → ℕ → List ℕ → Lacks → List ℕ → Lacks → Bool → Type 0
FillsCorner size r c old lacked new lacks full = IsCornerFilled size r c old lacked.rows.items lacked.columns.items new lacks.rows.items lacks.columns.items full

-- The square holds the matrix, and is no larger than its rows and columns together.
abbrev pub HasRoomFor : Matrix → Square → Type 0
HasRoomFor m s = (m.rows ≤ s.size) × (m.columns ≤ s.size) × (s.size ≤ m.rows + m.columns)

-- The slices so far, and what is left in the square, split the matrix.
abbrev pub SplitsSoFar : Matrix → Square → Seats → List Slice → ℕ → Type 0
SplitsSoFar m square seats slices left = IsSplitting m square seats.columns.items seats.owner.items slices left
