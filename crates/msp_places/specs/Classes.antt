-- The classes that the rules solve.
use Rattle.std.specs.Prelude.{false}
use Rattle.msp_class.specs.declared.class.Class.{Class}
use Rattle.msp_class.specs.declared.class.Env.TheVariants.{Q}
use Rattle.msp_class.specs.declared.class.Order.TheVariants.{Free}
use Rattle.msp_class.specs.declared.class.Times.TheVariants.{Equal}
use Rattle.msp_class.specs.declared.class.Crit.TheVariants.{Fmax, SumWT, SumWU}

-- Uniform machines, no preemption, neither precedence nor release dates, one time for all jobs, and the greatest cost of a job by its
-- curve: `Q|p=p|fmax`.
abbrev pub places_most_class : Class
places_most_class = record { env = Q; cut = false; order = Free; heads = false; times = Equal; crit = Fmax }

-- The same by the total weighted tardiness: `Q|p=p|sumwT`.
abbrev pub places_late_class : Class
places_late_class = record places_most_class { crit = SumWT }

-- The same by the weighted number of late jobs: `Q|p=p|sumwU`.
abbrev pub places_count_class : Class
places_count_class = record places_most_class { crit = SumWU }
