-- The class of open shops with preemption, and what its best schedules cost.
use Rattle.std.specs.Prelude.{◌≡◌, ℕ, ◌<◌, ◌≤◌, ◌⊎◌, true, false, length, pos}
use Rattle.msp_class.specs.declared.class.Class.{Class}
use Rattle.msp_class.specs.declared.class.Env.{Env}
use Rattle.msp_class.specs.declared.class.Order.TheVariants.{Free}
use Rattle.msp_class.specs.declared.class.Times.TheVariants.{General}
use Rattle.msp_class.specs.declared.class.Crit.TheVariants.{Cmax}
use Rattle.msp_instance.specs.declared.Instance.{Instance}
use Rattle.msp_pieces.specs.declared.Frac.{Frac}
use Rattle.msp_pieces.specs.Fraction.{IsOver}
use Rattle.msp_pieces.specs.Loads.{machine_load, job_length}

-- Any number of machines on which each job runs in any order and may be preempted, neither precedence nor release dates, any times, and
-- the greatest completion time: `O|pmtn|Cmax`.
abbrev pub open_cut_class : Class
open_cut_class = record { env = Env.O; cut = true; order = Free; heads = false; times = General; crit = Cmax }

-- The number is the greatest of the loads of all machines and of the lengths of all jobs.
pub record IsGreatestLine (i : Instance) (end : ℕ) : Type 0 where
  pub loads : (m : ℕ) → m < i.machines → machine_load i m ≤ end
  pub lengths : (j : ℕ) → j < length i.jobs → job_length i j ≤ end
  pub reached : ((m : ℕ) × (m < i.machines) × (end ≡ machine_load i m)) ⊎ ((j : ℕ) × (j < length i.jobs) × (end ≡ job_length i j))

-- The cost is the greatest of the loads of all machines and of the lengths of all jobs.
abbrev pub IsOpenCutCost : Instance → Frac → Type 0
IsOpenCutCost i cost = (end : ℕ) × IsGreatestLine i end × IsOver cost (pos end) (pos 1)
