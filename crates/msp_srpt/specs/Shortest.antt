-- The class that the rule of shortest remaining time solves, and what the rule says.
use Rattle.std.specs.Prelude.{◌≡◌, ℕ, ◌+◌, ◌-◌, ◌<◌, ◌≤◌, ◌⊎◌, ◌==◌, true, List, length, min, nat_abs, sum_by, if◌then◌else◌, ◌<ℤ◌, AllPairs}
use Rattle.msp_class.specs.declared.class.Class.{Class}
use Rattle.msp_class.specs.declared.class.Env.TheVariants.{One}
use Rattle.msp_class.specs.declared.class.Order.TheVariants.{Free}
use Rattle.msp_class.specs.declared.class.Times.TheVariants.{General}
use Rattle.msp_class.specs.declared.class.Crit.TheVariants.{SumC}
use Rattle.msp_instance.specs.declared.Instance.{Instance}
use Rattle.msp_instance.specs.Instance.{job_at, need_at}
use Rattle.msp_pieces.specs.declared.Piece.{Piece}

-- One machine, preemption, no precedence, release dates, any times, and the sum of the completion times: `1|pmtn,r|sumC`.
abbrev pub shortest_class : Class
shortest_class = record { env = One; cut = true; order = Free; heads = true; times = General; crit = SumC }

-- How long a job runs before the moment t.
abbrev pub run_before : List Piece → ℕ → ℕ → ℕ
run_before pieces t j = sum_by (λ p. if p.job == j then min (nat_abs p.to) t - nat_abs p.from else 0) pieces

-- The time that a job still needs when it has run for `run j`.
abbrev pub left_of : Instance → (ℕ → ℕ) → ℕ → ℕ
left_of i run j = (need_at i j 0).time - run j

-- The job is released by the moment t and still needs time.
pub record IsWaiting (i : Instance) (run : ℕ → ℕ) (t j : ℕ) : Type 0 where
  pub inside : j < length i.jobs
  pub released : (job_at i j).release ≤ t
  pub left : 0 < left_of i run j

-- Job k still needs less time than job j, or as much and has no greater number.
abbrev pub IsAhead : Instance → (ℕ → ℕ) → ℕ → ℕ → Type 0
IsAhead i run k j = (left_of i run k < left_of i run j) ⊎ ((left_of i run k ≡ left_of i run j) × (k ≤ j))

-- From the moment t to the next: no job waits and none runs, or of those that wait the one runs that is ahead of all. `now` and `next`
-- say how long each job runs before the two moments.
pub data KeepsRule (i : Instance) (now next : ℕ → ℕ) (t : ℕ) : Type 0 where
  idle : ((j : ℕ) → ¬ IsWaiting i now t j) → ((j : ℕ) → next j ≡ now j) → KeepsRule i now next t
  runs : (k : ℕ) → IsWaiting i now t k → ((j : ℕ) → IsWaiting i now t j → IsAhead i now k j) → ((j : ℕ) → next j ≡ now j + (if k == j then 1 else 0)) → KeepsRule i now next t

-- At each moment the job with the least remaining time runs, and a job that goes on is not cut.
pub record IsShortestFirst (i : Instance) (pieces : List Piece) : Type 0 where
  pub rule : (t : ℕ) → KeepsRule i (run_before pieces t) (run_before pieces (t + 1)) t
  pub whole : AllPairs (λ p q. p.job ≡ q.job → p.to <ℤ q.from) pieces
