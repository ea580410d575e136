-- The class that Lawler's rule solves, and the order in which the rule puts the jobs.
use Rattle.std.specs.Prelude.{ℕ, ◌+◌, ◌<◌, false, List, length, take, slice_index_or, IsPermutation}
use Rattle.std.specs.List.{range_with_len}
use Rattle.msp_class.specs.declared.class.Class.{Class}
use Rattle.msp_class.specs.declared.class.Env.TheVariants.{One}
use Rattle.msp_class.specs.declared.class.Order.TheVariants.{Prec}
use Rattle.msp_class.specs.declared.class.Times.TheVariants.{General}
use Rattle.msp_class.specs.declared.class.Crit.TheVariants.{Fmax}
use Rattle.msp_instance.specs.declared.Instance.{Instance}
use Rattle.msp_pieces.specs.Blocks.{total_time}
use Rattle.msp_route.specs.LastJob.{EndsAt}

-- One machine, precedence, neither preemption nor release dates, any times, and the greatest cost of a job by its curve: `1|prec|fmax`.
abbrev pub lawler_class : Class
lawler_class = record { env = One; cut = false; order = Prec; heads = false; times = General; crit = Fmax }

-- Of the jobs, the last one by Lawler's rule: it ends last when all of them are done.
abbrev pub GoesLast : Instance → List ℕ → ℕ → Type 0
GoesLast i jobs last = EndsAt i (total_time i jobs) jobs last

-- All jobs, each once, by Lawler's rule: each is the last one of itself and those before it.
pub record IsLawlerOrder (i : Instance) (order : List ℕ) : Type 0 where
  pub all : IsPermutation (range_with_len 0 (length i.jobs)) order
  pub last : (k : ℕ) → k < length order → GoesLast i (take (k + 1) order) (slice_index_or order k 0)
