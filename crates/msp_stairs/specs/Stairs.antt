-- The class that the rule solves, what its answers cost, and when they end.
use Rattle.std.specs.Prelude.{◌≡◌, ◌≢◌, ℕ, ◌==◌, ◌<◌, ◌≤◌, ◌⊎◌, true, false, List, [], ◌∷◌, ◌++◌, length, ℤ, pos, ◌+ℤ◌, ◌-ℤ◌, ◌*ℤ◌, ◌≤ℤ◌, ◌<ℤ◌, All, AllPairs, sum_by, fold, map}
use Rattle.std.specs.Int.{int_max}
use Rattle.std.specs.List.{count_by}
use Rattle.msp_class.specs.declared.class.Class.{Class}
use Rattle.msp_class.specs.declared.class.Env.TheVariants.{P as Identical}
use Rattle.msp_class.specs.declared.class.Order.TheVariants.{Free}
use Rattle.msp_class.specs.declared.class.Times.TheVariants.{General}
use Rattle.msp_class.specs.declared.class.Crit.TheVariants.{Lmax}
use Rattle.msp_instance.specs.declared.Instance.{Instance}
use Rattle.msp_instance.specs.Instance.{job_at}
use Rattle.msp_pieces.specs.declared.Frac.{Frac}
use Rattle.msp_pieces.specs.declared.Schedule.{Schedule}
use Rattle.msp_pieces.specs.Feasible.{Feasible}
use Rattle.msp_pieces.specs.Cost.{cost_of}
use Rattle.msp_pieces.specs.Fraction.{IsOver}
use Rattle.msp_pieces.specs.BackToBack.{time_at}

-- Identical machines, preemption, neither precedence nor release dates, any times, and the greatest lateness: `P|pmtn|Lmax`.
abbrev pub stairs_class : Class
stairs_class = record { env = Identical; cut = true; order = Free; heads = false; times = General; crit = Lmax }

-- The due dates of the jobs together.
abbrev pub dates_together : Instance → List ℕ → ℤ
dates_together i [] = pos 0
dates_together i (j ∷ js) = (job_at i j).due +ℤ dates_together i js

-- A set of jobs, of which as many as there are machines are due last: none of the others is due later than any of these.
pub record AreDueLast (i : Instance) (last others : List ℕ) : Type 0 where
  pub many : length last ≡ i.machines
  pub jobs : All (λ j. j < length i.jobs) (last ++ others)
  pub once : AllPairs (λ a b. a ≢ b) (last ++ others)
  pub dates : All (λ a. All (λ b. (job_at i b).due ≤ℤ (job_at i a).due) others) last

-- What no schedule avoids, times the number of machines: of a job its time less its due date, since it ends no sooner than its time is over.
abbrev pub IsLatenessOfJob : Instance → ℤ → Type 0
IsLatenessOfJob i x = (j : ℕ) × (j < length i.jobs) × (x ≡ pos i.machines *ℤ (pos (time_at i j) -ℤ (job_at i j).due))

-- And of a set of jobs the time of all less the due dates of those that are due last.
abbrev pub IsLatenessOfSet : Instance → ℤ → Type 0
IsLatenessOfSet i x = (last : List ℕ) × (others : List ℕ) × AreDueLast i last others
    × (x ≡ pos (sum_by (time_at i) (last ++ others)) -ℤ dates_together i last)

-- One of the two.
abbrev pub IsForced : Instance → ℤ → Type 0
IsForced i x = IsLatenessOfJob i x ⊎ IsLatenessOfSet i x

-- The cost is the greatest of these: of the time of a job less its due date, and of the time of at least m jobs less their m greatest due
-- dates, over m, where there are m machines.
abbrev pub IsStairsCost : Instance → Frac → Type 0
IsStairsCost i cost = (x : ℤ) × IsForced i x × ((y : ℤ) → IsForced i y → y ≤ℤ x) × IsOver cost x (pos i.machines)

-- No job has more than two pieces: each is interrupted once at most.
abbrev pub HasTwoPiecesAtMost : Schedule → Type 0
HasTwoPiecesAtMost s = (j : ℕ) → count_by (λ p. p.job == j) s.pieces ≤ 2

-- The end of a schedule: the greatest moment at which a piece of it ends.
abbrev pub makespan : Schedule → ℤ
makespan s = fold int_max (pos 0) (map (λ p. p.to) s.pieces)

-- No feasible schedule that costs no more ends a whole part of 1/m sooner, where there are m machines: with e its end over its unit u, each
-- of them, over any unit D, has an end x with D·(m·e − u) < m·x·u.
abbrev pub EndsSoonest : Instance → Schedule → Type 0
EndsSoonest i s = (t : Schedule) → Feasible i t → (cost_of i t *ℤ s.unit) ≤ℤ (cost_of i s *ℤ t.unit)
    → (t.unit *ℤ ((pos i.machines *ℤ makespan s) -ℤ s.unit)) <ℤ ((pos i.machines *ℤ makespan t) *ℤ s.unit)
