-- What holds of jobs that pass over a first and then over a second machine. No public contract cites this file.
use Rattle.std.specs.Prelude.{◌≡◌, ℕ, ◌+◌, ◌*◌, ◌^◌, ◌<◌, ◌≤◌, ◌⊎◌, ◌++◌, ◌==◌, List, [], ◌∷◌, if◌then◌else◌, pos, All, AllPairs, Contains, length, slice_index_or, sum_by}
use Rattle.msp_class.specs.declared.sizes.TheConstants.{GREATEST}
use Rattle.msp_pieces.specs.declared.Piece.{Piece}
use Rattle.msp_pieces.specs.Intervals.{IsApartOn}
use Rattle.msp_pieces.specs.Piece.{start, finish, IsTimed}
use Rattle.msp_shops.specs.declared.pass.JobTimes.{JobTimes}
use Rattle.msp_shops.specs.declared.pass.Moments.{Moments}
use Rattle.msp_shops.specs.declared.pass.Stage.{Stage}

-- The most of a moment at which an operation begins, and of its time: at least 3 * MOST_JOBS * GREATEST. Their sum fits a number of 64 bits.
abbrev pub greatest_begin : ℕ
greatest_begin = 10 ^ 13

-- A job's operation in one piece that begins at the moment. One that takes no time has no piece.
abbrev pub whole_piece : ℕ → Stage → ℕ → ℕ → Piece
whole_piece job stage begin time = record { job = job; op = stage.op; machine = stage.machine; from = pos begin; to = pos (begin + time) }

abbrev pub part : ℕ → Stage → ℕ → ℕ → List Piece
part job stage begin time = if time == 0 then [] else whole_piece job stage begin time ∷ []

-- The piece is an operation of this stage of a job, with all its time, between two moments.
pub record IsOperation (stage : Stage) (number time earliest latest : ℕ) (p : Piece) : Type 0 where
  pub job : p.job ≡ number
  pub op : p.op ≡ stage.op
  pub machine : p.machine ≡ stage.machine
  pub whole : finish p ≡ start p + time
  pub from : earliest ≤ start p
  pub to : finish p ≤ latest

-- The piece is an operation of the job, between the moments of its machine.
abbrev pub IsOf : Stage → Stage → Moments → Moments → Piece → JobTimes → Type 0
IsOf first second from to p j = IsOperation first j.job j.first from.first to.first p ⊎ IsOperation second j.job j.second from.second to.second p

-- A piece of the job's operation is there.
abbrev pub HasPiece : List Piece → Stage → ℕ → Type 0
HasPiece pieces stage job = (p : Piece) × Contains pieces p × (p.job ≡ job) × (p.op ≡ stage.op)

abbrev pub machine_of : Piece → ℕ
machine_of p = p.machine

-- The pieces are the operations of the jobs, each once and between the moments of its machine; on a machine they are apart; and the second
-- one of a job begins no earlier than the first one ends.
pub record IsTidy (first second : Stage) (jobs : List JobTimes) (from to : Moments) (pieces : List Piece) : Type 0 where
  pub timed : All IsTimed pieces
  pub known : All (λ p. (j : JobTimes) × Contains jobs j × IsOf first second from to p j) pieces
  pub has_first : All (λ j. 0 < j.first → HasPiece pieces first j.job) jobs
  pub has_second : All (λ j. 0 < j.second → HasPiece pieces second j.job) jobs
  pub apart : AllPairs (IsApartOn machine_of start finish) pieces
  -- of two pieces of a job the earlier in the list is the first operation, and ends no later than the other begins
  pub in_order : AllPairs (λ p q. p.job ≡ q.job → (p.op ≡ first.op) × (q.op ≡ second.op) × (finish p ≤ start q)) pieces

-- The second machine ends when it has run all jobs without a gap from its beginning on, or without a gap from the moment on at which some
-- job comes from the first machine, which has run that job and those before it without a gap.
abbrev pub IsCritical : List JobTimes → Moments → ℕ → Type 0
IsCritical jobs from end =
    (end ≡ from.second + sum_by (λ j. j.second) jobs)
    ⊎ ((before : List JobTimes) × (job : JobTimes) × (after : List JobTimes) × (jobs ≡ before ++ job ∷ after)
    × (end ≡ from.first + sum_by (λ j. j.first) before + job.first + job.second + sum_by (λ j. j.second) after))

-- The one job stands before the other in the list.
abbrev pub StandsBefore : List JobTimes → ℕ → ℕ → Type 0
StandsBefore jobs a b = (x : ℕ) × (y : ℕ) × (x < y) × (y < length jobs) × ((d : JobTimes) → ((slice_index_or jobs x d).job ≡ a) × ((slice_index_or jobs y d).job ≡ b))

-- The piece begins when the first machine is free at first, or its own machine, the second one; or when another piece of its machine or of
-- its job ends.
abbrev pub IsEarly : Stage → Moments → List Piece → Piece → Type 0
IsEarly second from pieces p = (start p ≡ from.first) ⊎ (((p.machine ≡ second.machine) × (start p ≡ from.second))
    ⊎ ((q : Piece) × Contains pieces q × (finish q ≡ start p) × ((q.machine ≡ p.machine) ⊎ (q.job ≡ p.job))))

-- The moment is the one from which on the machine was free, or a piece ends then on the machine.
abbrev pub IsEndOn : ℕ → ℕ → List Piece → ℕ → Type 0
IsEndOn machine from pieces moment = (moment ≡ from) ⊎ ((q : Piece) × Contains pieces q × (q.machine ≡ machine) × (finish q ≡ moment))

-- The pieces stand on each machine in the order of the jobs, and begin as early as they can, unless a job that takes no time on the first
-- machine stands behind one that does.
pub record IsInLine (first second : Stage) (jobs : List JobTimes) (from to : Moments) (pieces : List Piece) : Type 0 where
  pub row : AllPairs (λ p q. p.machine ≡ q.machine → StandsBefore jobs p.job q.job × (p.op ≡ q.op) × (finish p ≤ start q)) pieces
  pub early : AllPairs (λ s t. t.first ≡ 0 → s.first ≡ 0) jobs → All (IsEarly second from pieces) pieces
  pub first_end : IsEndOn first.machine from.first pieces to.first
  pub second_end : IsEndOn second.machine from.second pieces to.second ⊎ (to.second ≤ to.first)

-- The jobs have passed, from the moments on at which the machines were free until those at which they are free again.
pub record IsPass (first second : Stage) (jobs : List JobTimes) (from to : Moments) (pieces : List Piece) : Type 0 where
  pub tidy : IsTidy first second jobs from to pieces
  pub line : IsInLine first second jobs from to pieces
  pub first_end : to.first ≡ from.first + sum_by (λ j. j.first) jobs
  pub second_end : IsCritical jobs from to.second
  pub later : from.second ≤ to.second
  pub few : length pieces ≤ 2 * length jobs
  pub small : (to.first ≤ from.first + length jobs * GREATEST) × (to.second ≤ from.first + from.second + 2 * (length jobs * GREATEST))

-- The jobs have passed, and their pieces stand behind those that were there.
abbrev pub HasPassed : Stage → Stage → List JobTimes → Moments → Moments → List Piece → List Piece → Type 0
HasPassed first second jobs from to old new = (laid : List Piece) × (new ≡ old ++ laid) × IsPass first second jobs from to laid
