-- The classes that the rules of Johnson and Jackson solve.
use Rattle.std.specs.Prelude.{true, false}
use Rattle.msp_class.specs.declared.class.Class.{Class}
use Rattle.msp_class.specs.declared.class.Env.TheVariants.{F2, J2Short}
use Rattle.msp_class.specs.declared.class.Order.TheVariants.{Free}
use Rattle.msp_class.specs.declared.class.Times.TheVariants.{General}
use Rattle.msp_class.specs.declared.class.Crit.TheVariants.{Cmax}

-- Two machines in series, arbitrary times, and the greatest completion time: `F2||Cmax`.
abbrev pub johnson_class : Class
johnson_class = record { env = F2; cut = false; order = Free; heads = false; times = General; crit = Cmax }

-- Two machines, jobs of at most two operations in an order of their own, and the greatest completion time: `J2|n<=2|Cmax`.
abbrev pub jackson_class : Class
jackson_class = record { env = J2Short; cut = false; order = Free; heads = false; times = General; crit = Cmax }

-- The same with preemption: `J2|pmtn,n<=2|Cmax`.
abbrev pub jackson_cut_class : Class
jackson_cut_class = record { env = J2Short; cut = true; order = Free; heads = false; times = General; crit = Cmax }
