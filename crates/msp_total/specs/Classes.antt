-- The classes that the solvers answer.
use Rattle.std.specs.Prelude.{true, false}
use Rattle.msp_class.specs.declared.class.Class.{Class}
use Rattle.msp_class.specs.declared.class.Env.TheVariants.{F as FlowShops, Q, R}
use Rattle.msp_class.specs.declared.class.Order.TheVariants.{Free}
use Rattle.msp_class.specs.declared.class.Times.TheVariants.{General, Unit as UnitTimes}
use Rattle.msp_class.specs.declared.class.Crit.TheVariants.{SumC, SumWT, SumWU}

-- Uniform machines, no preemption, neither precedence nor release dates, any times, and the sum of completion times: `Q||sumC`.
abbrev pub uniform_class : Class
uniform_class = record { env = Q; cut = false; order = Free; heads = false; times = General; crit = SumC }

-- The same on unrelated machines: `R||sumC`.
abbrev pub unrelated_class : Class
unrelated_class = record { env = R; cut = false; order = Free; heads = false; times = General; crit = SumC }

-- Flow shops, release dates, operations of one unit of time, and the total weighted tardiness: `F|r,p=1|sumwT`.
abbrev pub lines_late_class : Class
lines_late_class = record { env = FlowShops; cut = false; order = Free; heads = true; times = UnitTimes; crit = SumWT }

-- The same by the weighted number of late jobs: `F|r,p=1|sumwU`.
abbrev pub lines_count_class : Class
lines_count_class = record lines_late_class { crit = SumWU }
