-- The jobs of one machine in the order in which a schedule ends them, one after another without gaps.
use Rattle.std.specs.Prelude.{◌≡◌, ℕ, List, reverse, nat_abs}
use Rattle.msp_instance.specs.declared.Instance.{Instance}
use Rattle.msp_pieces.specs.declared.Schedule.{Schedule}
use Rattle.msp_pieces.specs.declared.Solution.{Solution}
use Rattle.msp_pieces.specs.Cost.{cost_of}
use Rattle.msp_pieces.specs.Fraction.{IsOver}
use Rattle.msp_pieces.specs.LineUp.{lined_up, order_of_ends}

-- The jobs in the order of their ends, ties by number, from moment 0 without gaps.
abbrev pub by_ends : Instance → Schedule → Schedule
by_ends i s = lined_up i (nat_abs s.unit) (order_of_ends i s)

-- The same in the opposite order.
abbrev pub from_last : Instance → Schedule → Schedule
from_last i s = lined_up i (nat_abs s.unit) (reverse (order_of_ends i s))

-- The solution has the jobs in this order without gaps, and their cost.
pub record IsLinedUp (i : Instance) (unit : ℕ) (order : List ℕ) (s : Solution) : Type 0 where
  pub schedule : s.schedule ≡ lined_up i unit order
  pub cost : IsOver s.cost (cost_of i s.schedule) s.schedule.unit
