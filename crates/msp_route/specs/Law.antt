-- The law of a reduction: what it does to instances, schedules and costs, in numbers without bound.
use Rattle.std.specs.Prelude.{◌≡◌, ℕ, ◌≤◌, ℤ, pos, ◌+ℤ◌, ◌*ℤ◌, ◌≤ℤ◌, Some, IsSome}
use Rattle.std.specs.List.Sorted.{IsPermutation}
use Rattle.msp_instance.specs.declared.Instance.{Instance}
use Rattle.msp_instance.specs.Conditions.{Inner}
use Rattle.msp_pieces.specs.declared.Schedule.{Schedule}
use Rattle.msp_pieces.specs.Feasible.{Feasible}
use Rattle.msp_pieces.specs.Cost.{cost_of}
use Rattle.msp_table.specs.Rows.{goes_of}

-- The row applies to the class of the instance.
abbrev pub Applies : ℕ → Instance → Type 0
Applies row i = IsSome (goes_of row i.class)

-- The instance at the lower end of the row: an inner one of the class to which the row leads.
pub record IsLower (row : ℕ) (upper lower : Instance) : Type 0 where
  pub inner : Inner lower
  pub class : goes_of row upper.class ≡ Some lower.class

-- How costs are translated: `scale` times a cost below stands for `factor` times the cost above and `addend`.
pub record Rate : Type 0 where
  pub factor : ℕ
  pub addend : ℤ
  pub scale : ℕ

pub record IsPositive (rate : Rate) : Type 0 where
  pub factor : 1 ≤ rate.factor
  pub scale : 1 ≤ rate.scale

-- The cost of an upper schedule as it is translated, and that of a lower one, over their units.
abbrev pub cost_above : Rate → Instance → Schedule → ℤ
cost_above rate upper s = (pos rate.factor *ℤ cost_of upper s) +ℤ (rate.addend *ℤ s.unit)

abbrev pub cost_below : Rate → Instance → Schedule → ℤ
cost_below rate lower t = pos rate.scale *ℤ cost_of lower t

-- One half: a feasible upper schedule gives a feasible lower one that costs no more, as costs are translated.
abbrev pub IsForth : Rate → Instance → Instance → Schedule → Schedule → Type 0
IsForth rate upper lower s t = Feasible upper s → Feasible lower t × ((cost_below rate lower t *ℤ s.unit) ≤ℤ (cost_above rate upper s *ℤ t.unit))

-- The other half: a feasible lower schedule gives a feasible upper one that costs no more.
abbrev pub IsBack : Rate → Instance → Instance → Schedule → Schedule → Type 0
IsBack rate upper lower t s = Feasible lower t → Feasible upper s × ((cost_above rate upper s *ℤ t.unit) ≤ℤ (cost_below rate lower t *ℤ s.unit))

-- The schedule is another one with its pieces in some order.
pub record IsReordered (other s : Schedule) : Type 0 where
  pub unit : s.unit ≡ other.unit
  pub pieces : IsPermutation other.pieces s.pieces
