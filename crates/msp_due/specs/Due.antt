-- The classes that the rule solves, and when a bound on the greatest cost can be met.
use Rattle.std.specs.Prelude.{ℤ, false, ◌*ℤ◌, ◌≤ℤ◌}
use Rattle.msp_class.specs.declared.class.Class.{Class}
use Rattle.msp_class.specs.declared.class.Env.TheVariants.{R as Unrelated, R2 as TwoUnrelated}
use Rattle.msp_class.specs.declared.class.Order.TheVariants.{Intree, Prec}
use Rattle.msp_class.specs.declared.class.Times.TheVariants.{Equal}
use Rattle.msp_class.specs.declared.class.Crit.TheVariants.{Fmax}
use Rattle.msp_instance.specs.declared.Instance.{Instance}
use Rattle.msp_pieces.specs.declared.Schedule.{Schedule}
use Rattle.msp_pieces.specs.Feasible.{Feasible}
use Rattle.msp_pieces.specs.Cost.{cost_of}

-- Unrelated machines on which all jobs take one time, an intree, neither preemption nor release dates, and the greatest cost:
-- `R|intree,p=p|fmax`.
abbrev pub tree_class : Class
tree_class = record { env = Unrelated; cut = false; order = Intree; heads = false; times = Equal; crit = Fmax }

-- The same on two machines with any precedence: `R2|prec,p=p|fmax`.
abbrev pub pair_class : Class
pair_class = record tree_class { env = TwoUnrelated; order = Prec }

-- Some feasible schedule costs at most the bound.
abbrev pub CanMeet : Instance → ℤ → Type 0
CanMeet i bound = (s : Schedule) × Feasible i s × (cost_of i s ≤ℤ (bound *ℤ s.unit))
