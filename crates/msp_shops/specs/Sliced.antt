-- Slices laid one after another as pieces of a schedule that are joined where they touch, and the matrix of an open shop's times. No public contract cites this file.
use Rattle.std.specs.Prelude.{◌≡◌, ℕ, zero, suc, ◌*◌, ◌+◌, ◌<◌, ◌⊎◌, ◌++◌, ℤ, pos, ◌+ℤ◌, ◌≤ℤ◌, ◌<ℤ◌, List, [], ◌∷◌, if◌then◌else◌, nat_lt, length, slice_index_or, All, AllPairs}
use Rattle.msp_instance.specs.declared.Instance.{Instance}
use Rattle.msp_instance.specs.Instance.{need_at}
use Rattle.msp_pieces.specs.declared.Piece.{Piece}
use Rattle.msp_timetable.specs.declared.matrix.Matrix.{Matrix}
use Rattle.msp_timetable.specs.declared.matrix.Slice.{Slice}
use Rattle.msp_timetable.specs.Split.{cell, column_of, IsMatrix, IsSplit}
use Rattle.msp_shops.specs.Joined.{GoesOn, AreJoined}

-- A row's piece in a slice that begins at the moment: rows are machines, columns jobs. A row without a column has none.
abbrev pub row_piece : ℤ → Slice → ℕ → Piece
row_piece moment s r = record { job = column_of s r; op = r; machine = r; from = moment; to = moment +ℤ s.length }

abbrev pub row_part : ℕ → ℤ → Slice → ℕ → List Piece
row_part columns moment s r = if nat_lt (column_of s r) columns then row_piece moment s r ∷ [] else []

-- Those of a row in slices that follow one another from the moment on.
abbrev pub row_parts : ℕ → ℤ → ℕ → List Slice → List Piece
row_parts columns moment r [] = []
row_parts columns moment r (s ∷ rest) = row_part columns moment s r ++ row_parts columns (moment +ℤ s.length) r rest

-- Those of the first rows, where the first slice begins at the moment 0.
abbrev pub laid : ℕ → List Slice → ℕ → List Piece
laid columns slices zero = []
laid columns slices (suc n) = laid columns slices n ++ row_parts columns (pos 0) n slices

-- Two pieces of which the second goes on with the first, as one.
abbrev pub one_of : Piece → Piece → Piece
one_of p q = record { job = p.job; op = p.op; machine = p.machine; from = p.from; to = q.to }

-- The pieces come from others in this way: two neighbours are joined as often as it was done.
pub data Joins (parts : List Piece) : List Piece → Type 0 where
  as_they_are : Joins parts parts
  joined : (before after : List Piece) (p q : Piece) → GoesOn p q → Joins parts (before ++ p ∷ q ∷ after) → Joins parts (before ++ one_of p q ∷ after)

-- The piece runs the job on the machine, and ends at the moment.
pub record IsEndOf (job machine : ℕ) (moment : ℤ) (p : Piece) : Type 0 where
  pub of_job : p.job ≡ job
  pub of_op : p.op ≡ machine
  pub on_machine : p.machine ≡ machine
  pub ends : p.to ≡ moment

-- Where the piece of a machine begins that runs a job from the moment on: at that moment, or where the last piece does, if that is one of
-- the job on the machine which ends then, and is taken away.
pub data HasBegun (job machine : ℕ) (moment begin : ℤ) (old new : List Piece) : Type 0 where
  anew : new ≡ old → begin ≡ moment → ((front : List Piece) (p : Piece) → old ≡ front ++ p ∷ [] → ¬ IsEndOf job machine moment p) → HasBegun job machine moment begin old new
  earlier : (p : Piece) → old ≡ new ++ p ∷ [] → IsEndOf job machine moment p → begin ≡ p.from → HasBegun job machine moment begin old new

-- A piece is on a later machine, or on the same one and later, where it does not go on with the piece before.
abbrev pub Follows : Piece → Piece → Type 0
Follows p q = (p.machine < q.machine) ⊎ ((p.machine ≡ q.machine) × (p.to ≤ℤ q.from) × (¬ GoesOn p q))

-- The pieces follow one another, the last ones on the machine, where they end by the moment.
pub record AreInRows (machine : ℕ) (moment : ℤ) (pieces : List Piece) : Type 0 where
  pub follow : AllPairs Follows pieces
  pub by : All (λ p. (p.from <ℤ p.to) × ((p.machine < machine) ⊎ ((p.machine ≡ machine) × (p.to ≤ℤ moment)))) pieces

-- The rows are the machines, the columns the jobs, and the cells the times.
pub record IsTimeMatrix (i : Instance) (m : Matrix) : Type 0 where
  pub rows : m.rows ≡ i.machines
  pub columns : m.columns ≡ length i.jobs
  pub matrix : IsMatrix m
  pub cells : (r c : ℕ) → r < m.rows → c < m.columns → cell m r c ≡ pos (need_at i c r).time

-- The cells of the first rows.
pub record AreTimes (i : Instance) (rows : ℕ) (cells : List ℤ) : Type 0 where
  pub all : length cells ≡ rows * length i.jobs
  pub each : (r c : ℕ) → r < rows → c < length i.jobs → slice_index_or cells (r * length i.jobs + c) (pos 0) ≡ pos (need_at i c r).time

-- The pieces are those of slices into which the matrix of times is split, joined.
abbrev pub IsCutPlan : Instance → List Piece → Type 0
IsCutPlan i pieces = (m : Matrix) × (slices : List Slice) × IsTimeMatrix i m × IsSplit m slices × Joins (laid m.columns slices m.rows) pieces × AreJoined pieces
