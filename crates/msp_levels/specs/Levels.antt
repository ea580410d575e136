-- The class that Hu's rule solves, what its answers cost, and which pieces the rule gives.
use Rattle.std.specs.Prelude.{◌≡◌, ℕ, ◌<◌, ◌≤◌, ◌⊎◌, false, List, length, pos, AllPairs, IsPermutation}
use Rattle.std.specs.List.{range_with_len}
use Rattle.msp_class.specs.declared.class.Class.{Class}
use Rattle.msp_class.specs.declared.class.Env.TheVariants.{P as Parallel}
use Rattle.msp_class.specs.declared.class.Order.TheVariants.{Intree}
use Rattle.msp_class.specs.declared.class.Times.TheVariants.{Unit as UnitTimes}
use Rattle.msp_class.specs.declared.class.Crit.TheVariants.{Cmax}
use Rattle.msp_instance.specs.declared.Instance.{Instance}
use Rattle.msp_pieces.specs.declared.Frac.{Frac}
use Rattle.msp_pieces.specs.Fraction.{IsOver}
use Rattle.msp_pieces.specs.Levels.{AreLevels, level_bound}
use Rattle.msp_pieces.specs.declared.Schedule.{Schedule}
use Rattle.msp_slots.specs.ListSchedule.{IsListSchedule}

-- Identical machines, an intree, neither preemption nor release dates, unit times, and the greatest completion time: `P|intree,p=1|Cmax`.
abbrev pub levels_class : Class
levels_class = record { env = Parallel; cut = false; order = Intree; heads = false; times = UnitTimes; crit = Cmax }

-- The number is the greatest bound of a level that a job has.
pub record IsGreatestBound (i : Instance) (level : ℕ → ℕ) (bound : ℕ) : Type 0 where
  pub reached : (j : ℕ) × (j < length i.jobs) × (level_bound i level (level j) ≡ bound)
  pub greatest : (j : ℕ) → j < length i.jobs → level_bound i level (level j) ≤ bound

-- The fraction is the greatest bound, for the jobs' levels.
abbrev pub IsLevelCost : Instance → Frac → Type 0
IsLevelCost i cost = (level : ℕ → ℕ) × (bound : ℕ) × AreLevels i level × IsGreatestBound i level bound × IsOver cost (pos bound) (pos 1)

-- All jobs, each once, by falling level, ties by number.
pub record IsByLevel (i : Instance) (level : ℕ → ℕ) (order : List ℕ) : Type 0 where
  pub all : IsPermutation (range_with_len 0 (length i.jobs)) order
  pub falls : AllPairs (λ a b. (level b < level a) ⊎ ((level b ≡ level a) × (a < b))) order

-- The jobs run in this order, over the unit 1: at each moment, of those that no job left must precede, the first ones, on machines in order.
pub record IsLevelSchedule (i : Instance) (s : Schedule) : Type 0 where
  pub level : ℕ → ℕ
  pub order : List ℕ
  pub levels : AreLevels i level
  pub by_level : IsByLevel i level order
  pub unit : s.unit ≡ pos 1
  pub runs : IsListSchedule i order s.pieces
