-- A schedule that costs no more than a bound below which none costs is best.
use Rattle.std.proofs.Common.{◌≡◌, ℕ, ◌<◌, true, List, length, ℤ, pos, ◌*ℤ◌, ◌≤ℤ◌, sym, ap, subst, subst₂, arith}
use Rattle.std.proofs.lemmas.Int.{ints}
use Rattle.msp_class.specs.Crit.{is_greatest}
use Rattle.msp_class.specs.declared.class.Crit.TheVariants.{Cmax}
use Rattle.msp_class.proofs.IntegerRing.{≤ℤ_trans, ≤ℤ_antisym, one-*ℤ, *ℤ_comm, *ℤ-mono_nonneg}
use Rattle.msp_instance.specs.declared.Instance.{Instance}
use Rattle.msp_instance.specs.Instance.{job_at}
use Rattle.msp_pieces.specs.declared.Piece.{Piece}
use Rattle.msp_pieces.specs.declared.Schedule.{Schedule}
use Rattle.msp_pieces.specs.Feasible.{Feasible}
use Rattle.msp_pieces.specs.Cost.{cost_of, end_of, job_cost, Best}
use Rattle.msp_pieces.proofs.costs.Charges.{charge_of, cost_of-bound, cost_of-least}

pub best_at : (i : Instance) (s : Schedule) (bound : ℤ) → Feasible i s → cost_of i s ≤ℤ bound → ((t : Schedule) → Feasible i t → (t.unit *ℤ bound) ≤ℤ (s.unit *ℤ cost_of i t)) → Best i s
best_at i s bound feasible upper lower = record {
  feasible = feasible;
  least = λ t f. subst₂ (λ x y. x ≤ℤ y) (*ℤ_comm t.unit (cost_of i s)) (*ℤ_comm s.unit (cost_of i t)) (≤ℤ_trans (*ℤ-mono_nonneg t.unit (omega (arith, ints, f.unit)) upper) (lower t f));
}

-- over the unit 1
pub record IsBestAt (i : Instance) (pieces : List Piece) (bound : ℤ) : Type 0 where
  pub best : Best i (record { unit = pos 1; pieces = pieces })
  pub cost : cost_of i (record { unit = pos 1; pieces = pieces }) ≡ bound

module _ (i : Instance) (pieces : List Piece) where
  abbrev s : Schedule
  s = record { unit = pos 1; pieces = pieces }

  pub IsBestAt-from : (bound : ℤ) → Feasible i s → cost_of i s ≤ℤ bound → ((t : Schedule) → Feasible i t → (t.unit *ℤ bound) ≤ℤ cost_of i t) → IsBestAt i pieces bound
  IsBestAt-from bound feasible upper lower = record {
    best = best_at i s bound feasible upper (λ t f. subst (λ x. (t.unit *ℤ bound) ≤ℤ x) (sym (one-*ℤ (cost_of i t))) (lower t f));
    cost = ≤ℤ_antisym upper (subst (λ x. x ≤ℤ cost_of i s) (one-*ℤ bound) (lower s feasible));
  }

  -- of the makespan, where all jobs end by the bound, and in any schedule one ends no earlier
  pub IsBestAt-ends : (bound : ℕ) → i.class.crit ≡ Cmax → 0 < length i.jobs → Feasible i s → ((j : ℕ) → j < length i.jobs → end_of s j ≤ℤ pos bound)
      → ((t : Schedule) → Feasible i t → (k : ℕ) × (k < length i.jobs) × ((t.unit *ℤ pos bound) ≤ℤ end_of t k)) → IsBestAt i pieces (pos bound)
  IsBestAt-ends bound crit some feasible soon late = IsBestAt-from (pos bound) feasible
      (cost_of-least i s (pos bound) greatest some (λ k l. subst (λ x. x ≤ℤ pos bound) (sym (charge s k)) (soon k l)))
      (λ t f. let (k, l, long) = late t f in ≤ℤ_trans long (subst (λ x. x ≤ℤ cost_of i t) (charge t k) (cost_of-bound i t greatest k l)))
    where
      greatest : is_greatest i.class.crit ≡ true
      greatest = ap is_greatest crit

      charge : (t : Schedule) (k : ℕ) → charge_of i t k ≡ end_of t k
      charge t k = ap (λ c. job_cost c t.unit (job_at i k) (end_of t k)) crit
