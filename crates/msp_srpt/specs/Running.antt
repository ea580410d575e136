-- The pieces and the jobs that wait while the rule is carried out. No public contract cites this file.
use Rattle.std.specs.Prelude.{◌≡◌, ℕ, ◌+◌, ◌-◌, ◌*◌, ◌<◌, ◌≤◌, ◌⊎◌, ◌==◌, ◌++◌, List, [], ◌∷◌, length, map, min, pos, ℤ, count_by, sum_by, if◌then◌else◌, All, AllPairs}
use Rattle.std.specs.BinaryHeap.{IsHeap}
use Rattle.std.specs.Ordering.{nat_cmp, ordering_then}
use Rattle.std.specs.declared.cmp.Reverse.{Reverse}
use Rattle.msp_class.specs.declared.sizes.TheConstants.{MOST_JOBS, GREATEST}
use Rattle.msp_class.proofs.Sums.{OnceBelow}
use Rattle.msp_instance.specs.declared.Instance.{Instance}
use Rattle.msp_instance.specs.Instance.{job_at}
use Rattle.msp_pieces.specs.declared.Piece.{Piece}
use Rattle.msp_pieces.specs.Piece.{start, finish, IsTimed}
use Rattle.msp_pieces.specs.BackToBack.{time_at}
use Rattle.msp_srpt.specs.declared.shortest.Task.{Task}
use Rattle.msp_srpt.specs.Shortest.{run_before, KeepsRule}

-- The task runs before the other.
abbrev pub Precedes : Task → Task → Type 0
Precedes a b = (a.left < b.left) ⊎ ((a.left ≡ b.left) × (a.job ≤ b.job))

-- The items are those of a queue that hands out first what runs first. And the tasks in a queue.
abbrev pub IsQueue : List (Reverse Task) → Type 0
IsQueue items = IsHeap (λ x y. ordering_then (nat_cmp y.0.left x.0.left) (nat_cmp y.0.job x.0.job)) items

abbrev pub tasks_in : List (Reverse Task) → List Task
tasks_in items = map (λ x. x.0) items

-- The pieces stand one after another on machine 0, end by the moment t, and begin where their jobs are released. A job that goes on is
-- not cut.
pub record IsLaid (i : Instance) (t : ℕ) (pieces : List Piece) : Type 0 where
  pub timed : All IsTimed pieces
  pub place : All (λ p. (p.job < length i.jobs) × (p.op ≡ 0) × (p.machine ≡ 0)) pieces
  pub released : All (λ p. (job_at i p.job).release ≤ start p) pieces
  pub early : All (λ p. finish p ≤ t) pieces
  pub order : AllPairs (λ p q. finish p ≤ start q) pieces
  pub whole : AllPairs (λ p q. p.job ≡ q.job → finish p < start q) pieces

-- The last piece is none of the job that ends at the moment.
abbrev pub IsNew : ℕ → ℕ → List Piece → Type 0
IsNew job from pieces = (front : List Piece) (p : Piece) → pieces ≡ front ++ p ∷ [] → p.job ≡ job → ¬ (p.to ≡ pos from)

-- Where the piece begins in which a job runs from a moment on: at that moment, or where its last piece does, if that ends then and is
-- taken away.
abbrev pub HasBegun : ℕ → ℕ → ℤ → List Piece → List Piece → Type 0
HasBegun job from begin old new =
    ((new ≡ old) × (begin ≡ pos from) × IsNew job from old) ⊎ ((p : Piece) × (old ≡ new ++ p ∷ []) × (p.job ≡ job) × (p.to ≡ pos from) × (begin ≡ p.from))

-- The job runs from one moment to the other, and nothing else changes.
pub record HasRun (i : Instance) (job from to : ℕ) (old new : List Piece) : Type 0 where
  pub laid : IsLaid i to new
  pub more : (t j : ℕ) → run_before new t j ≡ run_before old t j + (if job == j then min to t - from else 0)

-- The same, wherever the job may run then.
abbrev pub Runs : ℕ → ℕ → ℕ → List Piece → List Piece → Type 0
Runs job from to old new = (i : Instance) → job < length i.jobs → (job_at i job).release ≤ from → IsLaid i from old → HasRun i job from to old new

-- The time that the tasks still need for a job, and the time that the jobs which have come need for it.
abbrev pub waiting : List Task → ℕ → ℕ
waiting ready j = sum_by (λ x. if x.job == j then x.left else 0) ready

abbrev pub brought : Instance → List ℕ → ℕ → ℕ
brought i seen j = sum_by (λ x. if x == j then time_at i x else 0) seen

-- Each job that is released before the moment has come.
abbrev pub HaveCome : Instance → List ℕ → ℕ → Type 0
HaveCome i seen t = (j : ℕ) → j < length i.jobs → (job_at i j).release < t → brought i seen j ≡ time_at i j

-- Until the moment t the rule was kept, and the tasks are what is left of the jobs that have come.
pub record IsUnderWay (i : Instance) (seen : List ℕ) (t : ℕ) (pieces : List Piece) (ready : List Task) : Type 0 where
  pub laid : IsLaid i t pieces
  pub kept : (u : ℕ) → u < t → KeepsRule i (run_before pieces u) (run_before pieces (u + 1)) u
  pub share : (j : ℕ) → run_before pieces t j + waiting ready j ≡ brought i seen j
  pub tasks : All (λ x. (x.job < length i.jobs) × ((job_at i x.job).release ≤ t) × (0 < x.left)) ready
  pub once : (j : ℕ) → count_by (λ x. x.job == j) ready ≤ count_by (λ x. x == j) seen
  pub distinct : (j : ℕ) → count_by (λ x. x == j) seen ≤ 1
  pub soon : 0 < length ready → t + sum_by (λ x. x.left) ready ≤ 2 * GREATEST + sum_by (time_at i) seen

-- The rule is carried out from one moment to another, whichever jobs have come.
abbrev pub GoesOn : ℕ → ℕ → ℕ → List Piece → List Task → List Piece → List Task → Type 0
GoesOn until from to old_pieces old_ready pieces ready =
    (i : Instance) (seen : List ℕ) → HaveCome i seen until → IsUnderWay i seen from old_pieces old_ready → IsUnderWay i seen to pieces ready

-- The rule is carried out until all jobs are complete: so many pieces are enough.
pub record IsCarriedOut (i : Instance) (t : ℕ) (pieces : List Piece) : Type 0 where
  pub order : List ℕ
  pub once : OnceBelow (length i.jobs) order
  pub ended : IsUnderWay i order t pieces []
  pub short : t ≤ (MOST_JOBS + 3) * GREATEST
  pub few : length pieces ≤ 2 * length i.jobs + 1
