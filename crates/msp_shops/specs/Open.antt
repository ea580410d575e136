-- The class of open shops of two machines, and what its best schedules cost.
use Rattle.std.specs.Prelude.{◌≡◌, ℕ, ◌<◌, ◌≤◌, ◌⊎◌, false, length, pos}
use Rattle.msp_class.specs.declared.class.Class.{Class}
use Rattle.msp_class.specs.declared.class.Env.TheVariants.{O2}
use Rattle.msp_class.specs.declared.class.Order.TheVariants.{Free}
use Rattle.msp_class.specs.declared.class.Times.TheVariants.{General}
use Rattle.msp_class.specs.declared.class.Crit.TheVariants.{Cmax}
use Rattle.msp_instance.specs.declared.Instance.{Instance}
use Rattle.msp_pieces.specs.declared.Frac.{Frac}
use Rattle.msp_pieces.specs.Fraction.{IsOver}
use Rattle.msp_pieces.specs.Loads.{machine_load, job_length}

-- Two machines on which each job runs in any order, neither preemption nor precedence nor release dates, any times, and the greatest
-- completion time: `O2||Cmax`.
abbrev pub open_class : Class
open_class = record { env = O2; cut = false; order = Free; heads = false; times = General; crit = Cmax }

-- The number is the greatest of the loads of both machines and of the lengths of the jobs.
pub record IsOpenEnd (i : Instance) (end : ℕ) : Type 0 where
  pub first_load : machine_load i 0 ≤ end
  pub second_load : machine_load i 1 ≤ end
  pub lengths : (j : ℕ) → j < length i.jobs → job_length i j ≤ end
  pub reached : (end ≡ machine_load i 0) ⊎ ((end ≡ machine_load i 1) ⊎ ((j : ℕ) × (j < length i.jobs) × (end ≡ job_length i j)))

-- The cost is the greatest of the loads of both machines and of the lengths of the jobs.
abbrev pub IsOpenCost : Instance → Frac → Type 0
IsOpenCost i cost = (end : ℕ) × IsOpenEnd i end × IsOver cost (pos end) (pos 1)
