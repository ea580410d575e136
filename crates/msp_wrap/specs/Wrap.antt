-- The class that McNaughton's rule solves, and what its answers cost.
use Rattle.std.specs.Prelude.{ℕ, ◌*◌, max, true, false, fold, map, pos, slice_index_or, sum_by}
use Rattle.msp_class.specs.declared.class.Class.{Class}
use Rattle.msp_class.specs.declared.class.Env.TheVariants.{P}
use Rattle.msp_class.specs.declared.class.Order.TheVariants.{Free}
use Rattle.msp_class.specs.declared.class.Times.TheVariants.{General}
use Rattle.msp_class.specs.declared.class.Crit.TheVariants.{Cmax}
use Rattle.msp_instance.specs.declared.Job.{Job}
use Rattle.msp_instance.specs.declared.Instance.{Instance}
use Rattle.msp_instance.specs.Instance.{no_need}
use Rattle.msp_pieces.specs.declared.Frac.{Frac}
use Rattle.msp_pieces.specs.Fraction.{IsOver}

-- Identical machines, preemption, neither precedence nor release dates, any times, and the greatest completion time: `P|pmtn|Cmax`.
abbrev pub wrap_class : Class
wrap_class = record { env = P; cut = true; order = Free; heads = false; times = General; crit = Cmax }

-- The time of a job's one operation.
abbrev pub time_of : Job → ℕ
time_of j = (slice_index_or j.needs 0 no_need).time

-- The longest time of a job, and the time of all jobs together.
abbrev pub longest_time : Instance → ℕ
longest_time i = fold max 0 (map time_of i.jobs)

abbrev pub total_time : Instance → ℕ
total_time i = sum_by time_of i.jobs

-- The greater of the longest time and the total time over the number of machines, times the number of machines: so it is whole.
abbrev pub least_end : Instance → ℕ
least_end i = max (i.machines * longest_time i) (total_time i)

-- The cost is the greater of the longest time and the total time over the number of machines.
abbrev pub IsWrapCost : Instance → Frac → Type 0
IsWrapCost i cost = IsOver cost (pos (least_end i)) (pos i.machines)
