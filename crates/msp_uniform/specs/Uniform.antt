-- The class of preemptive jobs on uniform machines, when it can be solved, and what a best schedule costs.
use Rattle.std.specs.Prelude.{◌≡◌, ℕ, ◌*◌, ◌-◌, ◌^◌, ◌<◌, ◌≤◌, ◌⊎◌, max, min, true, false, List, length, take, fold, ℤ, pos, ◌*ℤ◌, ◌≤ℤ◌, All, AllPairs, IsPermutation, sum_by}
use Rattle.std.specs.List.{range_with_len}
use Rattle.msp_class.specs.declared.class.Class.{Class}
use Rattle.msp_class.specs.declared.class.Env.TheVariants.{Q}
use Rattle.msp_class.specs.declared.class.Order.TheVariants.{Free}
use Rattle.msp_class.specs.declared.class.Times.TheVariants.{General}
use Rattle.msp_class.specs.declared.class.Crit.TheVariants.{Cmax}
use Rattle.msp_instance.specs.declared.Instance.{Instance}
use Rattle.msp_pieces.specs.declared.Frac.{Frac}
use Rattle.msp_pieces.specs.declared.Schedule.{Schedule}
use Rattle.msp_pieces.specs.Cost.{cost_of}
use Rattle.msp_pieces.specs.Feasible.{Feasible}
use Rattle.msp_pieces.specs.Fraction.{IsOver}
use Rattle.msp_pieces.specs.BackToBack.{time_at}
use Rattle.msp_pieces.specs.Speeds.{speed_of}
use Rattle.msp_uniform.specs.declared.unit.TheConstants.{GREATEST_PRODUCT}

-- Uniform machines, preemption, neither precedence nor release dates, any times, and the greatest completion time: `Q|pmtn|Cmax`.
abbrev pub cut_class : Class
cut_class = record { env = Q; cut = true; order = Free; heads = false; times = General; crit = Cmax }

-- How much faster the fastest machine is than the slowest, and 1 where all are equally fast.
abbrev pub gap : List ℕ → ℕ
gap speeds = max 1 (fold max 0 speeds - fold min (fold max 0 speeds) speeds)

abbrev pub sum : List ℕ → ℕ
sum xs = sum_by (λ x. x) xs

-- The sum of the speeds, times the gap for each machine but one, times some common multiple of the speeds, is at most 10^13.
abbrev pub HaveSmallUnit : List ℕ → ℕ → Type 0
HaveSmallUnit speeds machines = (multiple : ℕ) × (1 ≤ multiple) × All (λ s. (times : ℕ) × (multiple ≡ times * s)) speeds × (sum speeds * gap speeds ^ (machines - 1) * multiple ≤ GREATEST_PRODUCT)

abbrev pub HasSmallUnit : Instance → Type 0
HasSmallUnit i = HaveSmallUnit i.speeds i.machines

-- All numbers below n, each once, by falling key.
pub record IsByFalling (n : ℕ) (key : ℕ → ℕ) (order : List ℕ) : Type 0 where
  pub all : IsPermutation (range_with_len 0 n) order
  pub falls : AllPairs (λ a b. key b ≤ key a) order

-- The work of the jobs and the speed of the machines, together.
abbrev pub work : Instance → List ℕ → ℕ
work i jobs = sum_by (time_at i) jobs

abbrev pub speed : Instance → List ℕ → ℕ
speed i machines = sum_by (speed_of i) machines

-- The moment x over the unit is not before the one at which the jobs end where all these machines work on them all the time.
abbrev pub IsAfter : Instance → List ℕ → List ℕ → ℤ → ℤ → Type 0
IsAfter i jobs machines x unit = (pos (work i jobs) *ℤ unit) ≤ℤ (x *ℤ pos (speed i machines))

-- The greatest of the total work over the total speed and, for each k below the number of machines and at most the number of jobs, the k
-- longest works over the k greatest speeds.
pub record IsUniformCost (i : Instance) (cost : Frac) : Type 0 where
  -- the jobs, the longest first, and the machines, the fastest first
  pub jobs : List ℕ
  pub machines : List ℕ
  pub by_time : IsByFalling (length i.jobs) (time_at i) jobs
  pub by_speed : IsByFalling i.machines (speed_of i) machines
  pub total : IsAfter i jobs machines cost.num cost.den
  pub firsts : (k : ℕ) → k < i.machines → k ≤ length i.jobs → IsAfter i (take k jobs) (take k machines) cost.num cost.den
  -- it is one of them
  pub reached : IsOver cost (pos (work i jobs)) (pos (speed i machines))
      ⊎ ((k : ℕ) × (1 ≤ k) × (k < i.machines) × (k ≤ length i.jobs) × IsOver cost (pos (work i (take k jobs))) (pos (speed i (take k machines))))

-- The law of the least end: on uniform machines no feasible schedule ends before the total work over the total speed, nor before the k
-- longest works over the k greatest speeds.
pub record LawOfLeastEnd : Type 0 where
  pub total : (i : Instance) → i.class ≡ cut_class → (s : Schedule) → Feasible i s → 1 ≤ length i.jobs → (jobs machines : List ℕ)
      → IsByFalling (length i.jobs) (time_at i) jobs → IsByFalling i.machines (speed_of i) machines
      → IsAfter i jobs machines (cost_of i s) s.unit
  pub firsts : (i : Instance) → i.class ≡ cut_class → (s : Schedule) → Feasible i s → 1 ≤ length i.jobs → (jobs machines : List ℕ)
      → IsByFalling (length i.jobs) (time_at i) jobs → IsByFalling i.machines (speed_of i) machines
      → (k : ℕ) → k ≤ i.machines → k ≤ length i.jobs → IsAfter i (take k jobs) (take k machines) (cost_of i s) s.unit
