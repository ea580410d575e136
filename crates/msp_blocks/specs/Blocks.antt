-- The two classes that are solved by blocks, and the best cost as the value of a block.
use Rattle.std.specs.Prelude.{◌≡◌, true, false, ℤ, ◌*ℤ◌}
use Rattle.msp_class.specs.declared.class.Class.{Class}
use Rattle.msp_class.specs.declared.class.Env.TheVariants.{One}
use Rattle.msp_class.specs.declared.class.Order.TheVariants.{Prec}
use Rattle.msp_class.specs.declared.class.Times.TheVariants.{General, Unit}
use Rattle.msp_class.specs.declared.class.Crit.TheVariants.{Fmax}
use Rattle.msp_instance.specs.declared.Instance.{Instance}
use Rattle.msp_pieces.specs.declared.Schedule.{Schedule}
use Rattle.msp_pieces.specs.Cost.{cost_of, Best}
pub use Rattle.msp_route.specs.Heads.{greatest_head}

-- One machine, preemption, precedence, release dates, any times, and the greatest cost of a job by its curve: `1|pmtn,prec,r|fmax`.
abbrev pub blocks_class : Class
blocks_class = record { env = One; cut = true; order = Prec; heads = true; times = General; crit = Fmax }

-- The same with unit times in place of preemption: `1|prec,r,p=1|fmax`.
abbrev pub unit_blocks_class : Class
unit_blocks_class = record { env = One; cut = false; order = Prec; heads = true; times = Unit; crit = Fmax }

-- The value is the best cost: what each best schedule costs, over its unit.
abbrev pub IsBestCost : Instance → ℤ → Type 0
IsBestCost i value = (s : Schedule) → Best i s → cost_of i s ≡ s.unit *ℤ value
