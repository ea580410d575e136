-- Instances that neither feasibility nor costs tell apart have the same schedules, at the same costs.
use Rattle.std.proofs.Common.{◌≡◌, ℕ, List, Some, unwrap_or, sym, ap, subst}
use Rattle.msp_class.specs.declared.class.Class.{Class}
use Rattle.msp_class.specs.Env.{kind_of}
use Rattle.msp_class.proofs.IntegerRing.{≤ℤ_of_same}
use Rattle.msp_instance.specs.declared.Job.{Job}
use Rattle.msp_instance.specs.declared.Instance.{Instance}
use Rattle.msp_instance.specs.Conditions.{Inner, inner_limits}
use Rattle.msp_pieces.specs.declared.Schedule.{Schedule}
use Rattle.msp_pieces.specs.Feasible.{Feasible}
use Rattle.msp_pieces.proofs.feasible.Frames.{IsShaped-from_conditions}
use Rattle.msp_pieces.proofs.changes.Serves.{SameWork, SameWork-sym, Feasible-same}
use Rattle.msp_pieces.proofs.costs.Charges.{SameCharges, cost-same_charges}
use Rattle.msp_table.specs.Rows.{goes_of}
use Rattle.msp_route.specs.Law.{IsLower}
use Rattle.msp_route.specs.Bounds.{greatest_unit}
use Rattle.msp_route.specs.Changes.{led}
use Rattle.msp_route.specs.Stays.{SchedulesStay}

-- the row leads to the instance, in which what feasibility and costs read is the same
pub record Alike (row : ℕ) (i j : Instance) : Type 0 where
  pub lower : IsLower row i j
  pub work : SameWork i j
  pub charges : SameCharges i j

pub Alike-led : (row : ℕ) (i : Instance) (c : Class) (jobs : List Job)
    → goes_of row i.class ≡ Some c → Alike row i (record i { class = c; jobs = jobs }) → Alike row i (record (led row i) { jobs = jobs })
Alike-led row i c jobs g h = subst (Alike row i) (sym (ap (λ o. record i { class = unwrap_or o i.class; jobs = jobs }) g)) h

module _ {row : ℕ} {i j : Instance} (h : Alike row i j) (inner : Inner i) where
  up : (s : Schedule) → Feasible j s → Feasible i s
  up s f = Feasible-same j i s (IsShaped-from_conditions (inner_limits (kind_of j.class.env)) j h.lower.inner.conditions) (SameWork-sym i j h.work) f

  pub stay-alike : SchedulesStay row i j
  stay-alike = record {
    leads = h.lower;
    feasible = λ s. ((λ f. Feasible-same i j s (IsShaped-from_conditions (inner_limits (kind_of i.class.env)) i inner.conditions) h.work f), up s);
    cost = λ s f. cost-same_charges i j s h.charges f.unit;
    unit = ≤ℤ_of_same (ap greatest_unit (sym h.work.needs.kind));
  }
