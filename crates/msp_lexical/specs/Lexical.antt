-- The class that Coffman and Graham's rule solves, and what its answers cost.
use Rattle.std.specs.Prelude.{◌≡◌, ℕ, false, List, pos, ◌*ℤ◌}
use Rattle.msp_class.specs.declared.class.Class.{Class}
use Rattle.msp_class.specs.declared.class.Env.TheVariants.{P2}
use Rattle.msp_class.specs.declared.class.Order.TheVariants.{Prec}
use Rattle.msp_class.specs.declared.class.Times.TheVariants.{Unit as UnitTimes}
use Rattle.msp_class.specs.declared.class.Crit.TheVariants.{Cmax}
use Rattle.msp_instance.specs.declared.Instance.{Instance}
use Rattle.msp_pieces.specs.declared.Schedule.{Schedule}
use Rattle.msp_pieces.specs.declared.Frac.{Frac}
use Rattle.msp_pieces.specs.Fraction.{IsOver}
use Rattle.msp_pieces.specs.Cost.{cost_of, Best}
use Rattle.msp_pieces.specs.Segments.{AreSegments, segments_bound}

-- Two identical machines, any precedence, neither preemption nor release dates, unit times, and the greatest completion time:
-- `P2|prec,p=1|Cmax`.
abbrev pub lexical_class : Class
lexical_class = record { env = P2; cut = false; order = Prec; heads = false; times = UnitTimes; crit = Cmax }

-- The fraction is the bound of some segments: the halves of the lengths of the lists, rounded up, together.
abbrev pub IsSegmentCost : Instance → Frac → Type 0
IsSegmentCost i cost = (segments : List (List ℕ)) × AreSegments i segments × IsOver cost (pos (segments_bound i segments)) (pos 1)

-- The number is what a best schedule costs.
abbrev pub IsLeastCost : Instance → ℕ → Type 0
IsLeastCost i cost = (s : Schedule) × Best i s × (cost_of i s ≡ s.unit *ℤ pos cost)
