-- The stairs of machines by falling ends, and the jobs that are laid on them. No public contract cites this file.
use Rattle.std.specs.Prelude.{◌≡◌, ℕ, ◌==◌, zero, suc, ◌+◌, ◌*◌, ◌<◌, ◌≤◌, ◌⊎◌, Bool, true, false, ltb, cond, List, [], ◌∷◌, ◌++◌, length, map, pos, All, AllPairs, ⊤}
use Rattle.std.specs.Prelude.{slice_index_or, slice_set, remove}
use Rattle.std.specs.List.{range_with_len, count_by}
use Rattle.msp_class.proofs.Sums.{OnceBelow}
use Rattle.msp_instance.specs.declared.Instance.{Instance}
use Rattle.msp_pieces.specs.declared.Piece.{Piece}
use Rattle.msp_pieces.specs.Intervals.{IsApartOn, work_of}
use Rattle.msp_pieces.specs.Piece.{job_of, start, finish, IsTimed}
use Rattle.msp_stairs.specs.Bounds.{work_at, deadline, at}
use Rattle.msp_stairs.specs.declared.climb.Limits.{Limits}
use Rattle.msp_stairs.specs.declared.climb.Stair.{Stair}
use Rattle.msp_stairs.specs.declared.climb.Task.{Task}

abbrev pub no_stair : Stair
no_stair = record { machine = 0; end = 0 }

-- Machines that are busy up to moment 0.
abbrev pub level : ℕ → List Stair
level m = map (λ k. record { machine = k; end = 0 }) (range_with_len 0 m)

abbrev pub ends_of : List Stair → List ℕ
ends_of stairs = map (λ s. s.end) stairs

abbrev pub machines_of : List Stair → List ℕ
machines_of stairs = map (λ s. s.machine) stairs

-- ---- the ends
-- The ends fall, from the top on.
abbrev pub Falls : ℕ → List ℕ → Type 0
Falls top [] = ⊤
Falls top (e ∷ es) = (e ≤ top) × Falls e es

-- Numbers together; those of a function; and those of the first l alone.
abbrev pub together : List ℕ → ℕ
together [] = 0
together (e ∷ es) = e + together es

abbrev pub of_all : (ℕ → ℕ) → List ℕ → ℕ
of_all f [] = 0
of_all f (x ∷ xs) = f x + of_all f xs

abbrev pub of_first : (ℕ → ℕ) → ℕ → List ℕ → ℕ
of_first f zero xs = 0
of_first f (suc l) [] = 0
of_first f (suc l) (x ∷ xs) = f x + of_first f l xs

-- Different numbers below k, the greatest first.
abbrev pub IsBelow : ℕ → List ℕ → Type 0
IsBelow k [] = ⊤
IsBelow k (x ∷ xs) = (x < k) × IsBelow x xs

-- Some of the first k jobs by due date take as long as the machines from place l on are busy, and the l greatest deadlines among them besides.
abbrev pub IsBacked : (ℕ → ℕ) → (ℕ → ℕ) → ℕ → ℕ → List ℕ → Type 0
IsBacked time due k l ends = (set : List ℕ) × IsBelow k set × (together ends + of_first due l set ≤ of_all time set)

-- So it is at each place.
abbrev pub AreBacked : (ℕ → ℕ) → (ℕ → ℕ) → ℕ → ℕ → List ℕ → Type 0
AreBacked time due k l [] = ⊤
AreBacked time due k l (e ∷ es) = IsBacked time due k l (e ∷ es) × AreBacked time due k (suc l) es

-- ---- the pieces
-- A piece of a job's one operation.
abbrev pub part : ℕ → ℕ → ℕ → ℕ → Piece
part job machine from to = record { job = job; op = 0; machine = machine; from = pos from; to = pos to }

-- The same, and none where it does not last.
abbrev pub parts : ℕ → ℕ → ℕ → ℕ → List Piece
parts job machine from to = cond (ltb from to) (part job machine from to ∷ []) []

abbrev pub machine_of : Piece → ℕ
machine_of p = p.machine

-- No piece of the machine ends after the stair.
abbrev pub Holds : List Piece → Stair → Type 0
Holds pieces s = All (λ p. p.machine ≡ s.machine → finish p ≤ s.end) pieces

-- The pieces stand on the machines of the stairs, each once, up to their ends.
pub record AreOnStairs (m : ℕ) (stairs : List Stair) (pieces : List Piece) : Type 0 where
  pub machines : OnceBelow m (machines_of stairs)
  pub hold : All (Holds pieces) stairs
  pub timed : All IsTimed pieces
  pub place : All (λ p. (p.op ≡ 0) × (p.machine < m)) pieces
  pub apart : AllPairs (IsApartOn machine_of start finish) pieces

-- The pieces are those of the first k jobs of the order, each with all its work, and end by the deadlines.
pub record HaveWork (i : Instance) (order : List ℕ) (limits : Limits) (k : ℕ) (pieces : List Piece) : Type 0 where
  pub jobs : All (λ p. (x : ℕ) × (x < k) × (p.job ≡ at order x)) pieces
  pub apart : AllPairs (IsApartOn job_of start finish) pieces
  pub work : (x : ℕ) → x < k → work_of job_of start finish pieces (at order x) ≡ work_at i (at order x)
  pub ends : All (λ p. finish p ≤ deadline i limits p.job) pieces
  pub few : length pieces ≤ 2 * k
  pub cuts : (x : ℕ) → x < k → count_by (λ p. p.job == at order x) pieces ≤ 2

-- The first k jobs of the order are laid, and the ends do not stand above the deadlines of the others.
pub record HasClimbed (i : Instance) (order : List ℕ) (limits : Limits) (k : ℕ) (stairs : List Stair) (pieces : List Piece) : Type 0 where
  pub falls : (x : ℕ) → k ≤ x → x < length order → Falls (deadline i limits (at order x)) (ends_of stairs)
  pub backed : AreBacked (λ x. work_at i (at order x)) (λ x. deadline i limits (at order x)) k 0 (ends_of stairs)
  pub on_stairs : AreOnStairs i.machines stairs pieces
  pub worked : HaveWork i order limits k pieces

-- The pieces of all jobs of the order, wherever the machines stand on the stairs.
abbrev pub IsClimbed : Instance → List ℕ → Limits → List Piece → Type 0
IsClimbed i order limits pieces = (stairs : List Stair) × HasClimbed i order limits (length order) stairs pieces

-- Some of the jobs take longer than their m greatest deadlines.
abbrev pub IsTooLate : Instance → List ℕ → Limits → Type 0
IsTooLate i order limits = (set : List ℕ) × IsBelow (length order) set
    × (of_first (λ x. deadline i limits (at order x)) i.machines set < of_all (λ x. work_at i (at order x)) set)

-- ---- one job more
-- A job as a task for the limits.
abbrev pub task_for : Instance → Limits → ℕ → Task
task_for i limits j = record { job = j; time = work_at i j; due = deadline i limits j }

-- On the machines before the place the task would end after its deadline, and on that at the place, if there is one, by it.
pub record HasTooHigh (t : Task) (stairs : List Stair) (place : ℕ) : Type 0 where
  pub inside : place ≤ length stairs
  pub high : (k : ℕ) → k < place → t.due < (slice_index_or stairs k no_stair).end + t.time
  pub low : place < length stairs → (slice_index_or stairs place no_stair).end + t.time ≤ t.due

-- The task would end after its deadline on the high machine, which is free before that, and ends by it on the low one.
abbrev pub IsBetween : Task → Stair → Stair → Type 0
IsBetween t high low = (high.end ≤ t.due) × (t.due < high.end + t.time) × (low.end + t.time ≤ t.due)

-- The stairs where the machine at a place is busy up to the end; and where it comes to the front.
abbrev pub raised : ℕ → ℕ → List Stair → List Stair
raised place end stairs = slice_set stairs place (record { machine = (slice_index_or stairs place no_stair).machine; end = end })

abbrev pub to_front : ℕ → List Stair → List Stair
to_front place stairs = slice_index_or stairs place no_stair ∷ remove stairs place

-- The job fits on the first machine.
pub record IsWhole (t : Task) (old : List Stair) (before : List Piece) (new : List Stair) (after : List Piece) : Type 0 where
  pub first : Stair
  pub others : List Stair
  pub end : ℕ
  pub is : end ≡ first.end + t.time
  pub fits : end ≤ t.due
  pub stood : old ≡ first ∷ others
  pub stand : new ≡ record { machine = first.machine; end = end } ∷ others
  pub laid : after ≡ before ++ parts t.job first.machine first.end end

-- It does not fit on the high machine, and fits on the next one: it runs on the high one up to its deadline, and on the low one for the rest.
-- The high one comes to the front.
pub record IsCut (t : Task) (old : List Stair) (before : List Piece) (new : List Stair) (after : List Piece) : Type 0 where
  pub ahead : List Stair
  pub high : Stair
  pub low : Stair
  pub behind : List Stair
  pub end : ℕ
  pub is : end + t.due ≡ low.end + high.end + t.time
  pub beyond : t.due < high.end + t.time
  pub fits : low.end + t.time ≤ t.due
  pub stood : old ≡ ahead ++ high ∷ low ∷ behind
  pub stand : new ≡ record { machine = high.machine; end = t.due } ∷ (ahead ++ record { machine = low.machine; end = end } ∷ behind)
  pub laid : after ≡ (before ++ parts t.job high.machine high.end t.due) ++ parts t.job low.machine low.end end

-- The job is laid so that it ends by its deadline, or it fits on no machine.
abbrev pub IsLaid : Task → List Stair → List Piece → Bool → List Stair → List Piece → Type 0
IsLaid t old before true new after = IsWhole t old before new after ⊎ IsCut t old before new after
IsLaid t old before false new after = All (λ s. t.due < s.end + t.time) old
