-- The rows over which schedules stay as they are.
use Rattle.std.specs.Prelude.{◌≡◌, ℕ, ◌≤◌, ◌↔◌, true, ◌≤ℤ◌, IsTrue}
use Rattle.msp_class.specs.Env.{kind_of}
use Rattle.msp_instance.specs.declared.Instance.{Instance}
use Rattle.msp_instance.specs.Conditions.{Inner}
use Rattle.msp_pieces.specs.declared.Schedule.{Schedule}
use Rattle.msp_pieces.specs.Feasible.{Feasible}
use Rattle.msp_pieces.specs.Cost.{cost_of}
use Rattle.msp_table.specs.declared.row.TheConstants.{ROWS}
use Rattle.msp_table.specs.Rows.{carries}
use Rattle.msp_route.specs.Law.{Applies, IsLower}
use Rattle.msp_route.specs.Bounds.{greatest_unit, keeps_schedule}

-- The row leads to the lower instance, and both have the same feasible schedules, at the same costs.
pub record SchedulesStay (row : ℕ) (upper lower : Instance) : Type 0 where
  pub leads : IsLower row upper lower
  pub feasible : (s : Schedule) → Feasible upper s ↔ Feasible lower s
  pub cost : (s : Schedule) → Feasible upper s → cost_of upper s ≡ cost_of lower s
  -- a unit that may come back from the lower instance may stand above
  pub unit : greatest_unit (kind_of lower.class.env) ≤ℤ greatest_unit (kind_of upper.class.env)

-- The row carries the same schedules at the same costs, from each instance to the one that `lower` makes of it.
pub record CarriesSame (row : ℕ) (lower : Instance → Instance) : Type 0 where
  pub listed : (1 ≤ row) × (row ≤ ROWS)
  pub carried : IsTrue (carries row)
  pub kept : keeps_schedule row ≡ true
  pub stay : (i : Instance) → Inner i → Applies row i → SchedulesStay row i (lower i)
