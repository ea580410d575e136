-- Segments one after another, as pieces of a schedule. No public contract cites this file.
use Rattle.std.specs.Prelude.{◌≡◌, ℕ, zero, suc, ◌+◌, ◌<◌, ◌≤◌, ◌==◌, List, [], ◌∷◌, ◌++◌, length, pos, slice_index_or, if◌then◌else◌}
use Rattle.msp_pieces.specs.declared.Piece.{Piece}
use Rattle.msp_uniform.specs.declared.segments.Segment.{Segment}

-- The job on a machine from a to b.
abbrev pub piece_on : ℕ → ℕ → ℕ → ℕ → Piece
piece_on machine j a b = record { job = j; op = 0; machine = machine; from = pos a; to = pos b }

-- The same as a list, which is empty where `none` stands for no job.
abbrev pub part_on : ℕ → ℕ → ℕ → ℕ → ℕ → List Piece
part_on none machine j a b = if j == none then [] else piece_on machine j a b ∷ []

-- The pieces of a machine that has had the job j since the moment a, in segments from the moment t on. A piece ends where the machine gets
-- another job.
abbrev pub runs_from : ℕ → ℕ → ℕ → ℕ → ℕ → List Segment → List Piece
runs_from none machine j a t [] = part_on none machine j a t
runs_from none machine j a t (x ∷ xs) =
    if slice_index_or x.body.value.jobs machine 0 == j then runs_from none machine j a (t + x.length) xs
    else part_on none machine j a t ++ runs_from none machine (slice_index_or x.body.value.jobs machine 0) t (t + x.length) xs

-- The pieces of the first machines.
abbrev pub runs : ℕ → List Segment → ℕ → List Piece
runs none xs zero = []
runs none xs (suc m) = runs none xs m ++ runs_from none m none 0 0 xs

-- A slice lasts, and gives m machines jobs below n, each a different one, or n for none.
pub record IsSliceOf (m n : ℕ) (long : ℕ) (jobs : List ℕ) : Type 0 where
  pub lasts : 1 ≤ long
  pub all : length jobs ≡ m
  pub inside : (i : ℕ) → i < m → slice_index_or jobs i 0 ≤ n
  pub once : (i j : ℕ) → i < j → j < m → slice_index_or jobs i 0 ≡ slice_index_or jobs j 0 → slice_index_or jobs i 0 ≡ n

-- The pieces of the first machines that begin at the moment t, the last machine first: of those that have another job than before.
abbrev pub begun : ℕ → List ℕ → List ℕ → ℕ → (ℕ → ℕ) → ℕ → List Piece
begun none before jobs t ends zero = []
begun none before jobs t ends (suc m) =
    (if slice_index_or jobs m 0 == slice_index_or before m 0 then [] else part_on none m (slice_index_or jobs m 0) t (ends m))
    ++ begun none before jobs t ends m

-- The jobs before so many segments are over: those of the segment before, or none.
abbrev pub jobs_before : List ℕ → List Segment → ℕ → List ℕ
jobs_before idle xs zero = idle
jobs_before idle [] (suc k) = idle
jobs_before idle (x ∷ xs) (suc k) = jobs_before x.body.value.jobs xs k

-- The moment up to which each machine has the job that it had before.
pub record IsNextEnds (before jobs : List ℕ) (t : ℕ) (old new : List ℕ) : Type 0 where
  pub many : length new ≡ length old
  pub each : (i : ℕ) → i < length jobs → slice_index_or new i 0 ≡ (if slice_index_or jobs i 0 == slice_index_or before i 0 then slice_index_or old i 0 else t)
