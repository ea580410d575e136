-- The earliest schedule of jobs that wait, and what is placed of the others. No public contract cites this file.
use Rattle.std.specs.Prelude.{◌≡◌, ◌≢◌, ℕ, ◌+◌, ◌*◌, ◌<◌, ◌≤◌, max, cond, ltb, List, [], ◌∷◌, ◌++◌, length, take, slice_index_or, ℤ, ◌≤ℤ◌, All, AllPairs, Contains, sum_by, ⊤}
use Rattle.msp_instance.specs.declared.Instance.{Instance}
use Rattle.msp_class.specs.declared.sizes.TheConstants.{MOST_JOBS, GREATEST}
use Rattle.msp_pieces.specs.declared.Piece.{Piece}
use Rattle.msp_pieces.specs.Blocks.{IsBlock, IsBlockValue, cost_at}
use Rattle.msp_pieces.specs.Intervals.{IsApart, work_of}
use Rattle.msp_pieces.specs.Piece.{job_of, start, finish, IsTimed}
use Rattle.msp_pieces.specs.BackToBack.{piece, time_at}
use Rattle.msp_route.specs.Heads.{head_in}

-- When jobs that begin at their heads at the earliest are done one after another on a machine that is free from a moment on.
abbrev pub done_by : (ℕ → ℕ) → (ℕ → ℕ) → ℕ → List ℕ → ℕ
done_by head time t [] = t
done_by head time t (j ∷ js) = done_by head time (max t (head j) + time j) js

-- The same of those jobs alone whose heads are before a moment.
abbrev pub busy_until : (ℕ → ℕ) → (ℕ → ℕ) → ℕ → List ℕ → ℕ → ℕ
busy_until head time t [] moment = t
busy_until head time t (j ∷ js) moment = cond (ltb (head j) moment) (busy_until head time (max t (head j) + time j) js moment) (busy_until head time t js moment)

-- The machine is never idle between these jobs, from the moment on.
abbrev pub Follow : (ℕ → ℕ) → (ℕ → ℕ) → ℕ → List ℕ → Type 0
Follow head time t [] = ⊤
Follow head time t (j ∷ js) = (head j ≤ t) × Follow head time (t + time j) js

-- A piece of the job between two moments, where there is time.
abbrev pub gap : ℕ → ℕ → ℕ → List Piece
gap job from to = cond (ltb from to) (piece job from to ∷ []) []

-- What the other jobs leave of the time from a moment up to an end, as pieces of the job.
abbrev pub gaps : (ℕ → ℕ) → (ℕ → ℕ) → ℕ → ℕ → List ℕ → ℕ → List Piece
gaps head time job t [] end = gap job t end
gaps head time job t (j ∷ js) end = gap job t (head j) ++ gaps head time job (max t (head j) + time j) js end

-- No block ends later than this.
abbrev pub greatest_end : ℕ
greatest_end = GREATEST * (2 + 2 * MOST_JOBS)

-- The first jobs of the list are its first block, without idle time from the first head up to the end.
pub record IsFirstBlock (head time : ℕ → ℕ) (jobs : List ℕ) (count end : ℕ) : Type 0 where
  pub some : 0 < count
  pub within : count ≤ length jobs
  pub end_is : end ≡ head (slice_index_or jobs 0 0) + sum_by time (take count jobs)
  pub near : (k : ℕ) → k < count → head (slice_index_or jobs k 0) ≤ head (slice_index_or jobs 0 0) + sum_by time (take k jobs)

-- The piece is one of the one operation of a job, on the one machine.
pub record IsPut (i : Instance) (p : Piece) : Type 0 where
  pub job : p.job < length i.jobs
  pub op : p.op ≡ 0
  pub machine : p.machine ≡ 0
  pub timed : IsTimed p

-- Of some jobs, sorted by their heads, none is placed yet; the pieces are those of the others. They lie where the earliest schedule of the
-- jobs that are left is idle.
pub record IsFilling (i : Instance) (head : ℕ → ℕ) (greatest : ℕ) (left : List ℕ) (pieces : List Piece) : Type 0 where
  pub inside : All (λ j. j < length i.jobs) left
  pub distinct : AllPairs (λ j k. j ≢ k) left
  pub sorted : AllPairs (λ j k. head j ≤ head k) left
  pub put : All (IsPut i) pieces
  pub placed : All (λ p. ¬ Contains left p.job) pieces
  pub after : All (λ p. head p.job ≤ start p) pieces
  pub idle : All (λ p. busy_until head (time_at i) 0 left (finish p) ≤ start p) pieces
  pub apart : AllPairs (IsApart start finish) pieces
  -- along arcs
  pub early : All (λ a. All (λ p. p.job ≡ a.before → Contains left a.after → finish p ≤ head a.after) pieces) i.arcs
  pub ordered : All (λ a. All (λ p. All (λ q. p.job ≡ a.before → q.job ≡ a.after → finish p ≤ start q) pieces) pieces) i.arcs
  -- the jobs that are placed have their time
  pub work : (j : ℕ) → j < length i.jobs → ¬ Contains left j → work_of job_of start finish pieces j ≡ time_at i j
  -- how many they are, and how late
  pub few : length pieces + MOST_JOBS * length left ≤ MOST_JOBS * MOST_JOBS
  pub ends : All (λ p. finish p ≤ greatest) pieces

-- The jobs are a block of that value.
pub record IsBound (i : Instance) (heads jobs : List ℕ) (cost : ℤ) : Type 0 where
  pub block : IsBlock i heads jobs
  pub value : IsBlockValue i heads jobs cost

-- None of the jobs that are placed costs more.
abbrev pub CostAtMost : Instance → ℤ → List ℕ → List Piece → Type 0
CostAtMost i most left pieces = (j : ℕ) → j < length i.jobs → ¬ Contains left j → (end : ℕ) × All (λ p. p.job ≡ j → finish p ≤ end) pieces × (cost_at i j end ≤ℤ most)

-- The same, in the words of the code: the head of the next job that waits, what is placed, and that no job placed since costs more.
abbrev pub next_head : List ℕ → List ℕ → ℕ → ℕ
next_head heads left count = head_in heads (slice_index_or left count 0)

abbrev pub ArePlaced : Instance → List ℕ → List ℕ → List Piece → Type 0
ArePlaced i heads left pieces = IsFilling i (head_in heads) greatest_end left pieces

abbrev pub KeepsCosts : Instance → ℤ → List ℕ → List Piece → List ℕ → List Piece → Type 0
KeepsCosts i cost left pieces left' pieces' = (most : ℤ) → cost ≤ℤ most → CostAtMost i most left pieces → CostAtMost i most left' pieces'
