-- Instances of different environments whose frames serve each other have the same feasible schedules, at the same costs.
use Rattle.std.proofs.Common.{ℕ, ◌≤ℤ◌}
use Rattle.msp_class.specs.Env.{kind_of}
use Rattle.msp_instance.specs.declared.Instance.{Instance}
use Rattle.msp_instance.specs.Conditions.{Inner, inner_limits}
use Rattle.msp_pieces.proofs.feasible.Frames.{IsShaped, IsShaped-from_conditions, frame_of}
use Rattle.msp_pieces.proofs.changes.Serves.{Serves, Feasible-served}
use Rattle.msp_pieces.proofs.costs.Charges.{SameCharges, cost-same_charges}
use Rattle.msp_route.specs.Law.{IsLower}
use Rattle.msp_route.specs.Bounds.{greatest_unit}
use Rattle.msp_route.specs.Stays.{SchedulesStay}

-- the row leads to the instance, and each schedule of the one serves the other as it is, at the same cost
pub record ServesBoth (row : ℕ) (i j : Instance) : Type 0 where
  pub lower : IsLower row i j
  pub down : Serves (frame_of i) (frame_of j)
  pub up : Serves (frame_of j) (frame_of i)
  pub charges : SameCharges i j
  pub units : greatest_unit (kind_of j.class.env) ≤ℤ greatest_unit (kind_of i.class.env)

module _ {row : ℕ} {i j : Instance} (h : ServesBoth row i j) (inner : Inner i) where
  shaped : IsShaped i
  shaped = IsShaped-from_conditions (inner_limits (kind_of i.class.env)) i inner.conditions

  shaped_lower : IsShaped j
  shaped_lower = IsShaped-from_conditions (inner_limits (kind_of j.class.env)) j h.lower.inner.conditions

  pub stay-served : SchedulesStay row i j
  stay-served = record {
    leads = h.lower;
    feasible = λ s. (Feasible-served i j s shaped shaped_lower h.down, Feasible-served j i s shaped_lower shaped h.up);
    cost = λ s f. cost-same_charges i j s h.charges f.unit;
    unit = h.units;
  }
