-- Sums of completion times: what a schedule costs, and when one over the unit 1 is best.
use Rattle.std.proofs.Common.{◌≡◌, ℕ, ◌*◌, ◌<◌, ◌≤◌, false, List, length, pos, nat_abs, ◌*ℤ◌, ◌≤ℤ◌, sym, ap, subst, subst₂, ◌∙◌, arith}
use Rattle.std.proofs.Math.Nat.{mul-le-mul_left}
use Rattle.std.proofs.lemmas.Int.{ints}
use Rattle.msp_class.specs.declared.class.Crit.TheVariants.{SumC, SumWC}
use Rattle.msp_class.specs.Crit.{is_greatest}
use Rattle.msp_class.specs.Sums.{total_below}
use Rattle.msp_class.proofs.IntegerRing.{natural, pos-le, le-pos, ≤ℤ_antisym, one-*ℤ, *ℤ-one, *ℤ_comm}
use Rattle.msp_class.proofs.Sums.{sum_by-OnceBelow, OnceBelow, length-OnceBelow, total_below-mono, int_total_below-natural}
use Rattle.msp_instance.specs.declared.Instance.{Instance}
use Rattle.msp_instance.specs.Instance.{job_at}
use Rattle.msp_pieces.specs.declared.Frac.{Frac}
use Rattle.msp_pieces.specs.declared.Piece.{Piece}
use Rattle.msp_pieces.specs.declared.Schedule.{Schedule}
use Rattle.msp_pieces.specs.Feasible.{Feasible}
use Rattle.msp_pieces.specs.Cost.{cost_of, end_of, job_cost, Best}
use Rattle.msp_pieces.specs.Fraction.{IsOver}
use Rattle.msp_pieces.specs.Within.{Within}
use Rattle.msp_pieces.proofs.lists.Places.{sum_by-places}
use Rattle.msp_pieces.proofs.costs.Charges.{charge_of, cost_of-sum}
use Rattle.msp_pieces.proofs.feasible.LastEnds.{last_end-natural}
use Rattle.msp_route.specs.Bounds.{IsAnswer}
use Rattle.msp_cut_sums.specs.Sums.{at, weight_at}
use Rattle.msp_cut_sums.specs.Schedules.{CutsNone}
use Rattle.msp_pieces.proofs.bounds.Room.{end_at}

-- the cost is the sum of all ends, each as often as the weight says
pub record IsSumOf (i : Instance) (weight : ℕ → ℕ) : Type 0 where
  pub greatest : is_greatest i.class.crit ≡ false
  pub charge : (s : Schedule) (j : ℕ) → charge_of i s j ≡ pos (weight j) *ℤ end_of s j

pub IsSumOf-ones : (i : Instance) → i.class.crit ≡ SumC → IsSumOf i (λ _. 1)
IsSumOf-ones i e = record { greatest = ap is_greatest e; charge = λ s j. ap (λ c. job_cost c s.unit (job_at i j) (end_of s j)) e ∙ sym (one-*ℤ (end_of s j)) }

pub IsSumOf-weights : (i : Instance) → i.class.crit ≡ SumWC → IsSumOf i (weight_at i)
IsSumOf-weights i e = record { greatest = ap is_greatest e; charge = λ s j. ap (λ c. job_cost c s.unit (job_at i j) (end_of s j)) e }

abbrev pub over_one : List Piece → Schedule
over_one pieces = record { unit = pos 1; pieces = pieces }

-- the schedule is an answer, and what is told of it
pub record IsSolved (i : Instance) (Costs : Frac → Type 0) (Pieces : Schedule → Type 0) (s : Schedule) : Type 0 where
  pub best : Best i s
  pub within : Within i s
  pub answer : IsAnswer i s
  pub pieces : Pieces s
  pub uncut : CutsNone s
  pub cost : (cost : Frac) → IsOver cost (cost_of i s) (pos 1) → Costs cost

module _ (i : Instance) (weight : ℕ → ℕ) (sums : IsSumOf i weight) (order : List ℕ) (once : OnceBelow (length i.jobs) order) where
  abbrev n : ℕ
  n = length i.jobs

  -- over the places of the order
  cost_in_order : (s : Schedule) → cost_of i s ≡ pos (total_below n (λ r. weight (at order r) * end_at s (at order r)))
  cost_in_order s =
      cost_of-sum i s sums.greatest
      ∙ int_total_below-natural n (charge_of i s) (λ j. weight j * end_at s j) (λ j l. sums.charge s j ∙ ap (λ x. pos (weight j) *ℤ x) (natural (end_of s j) (last_end-natural s.pieces j)))
      ∙ ap pos (sym (sum_by-OnceBelow (λ j. weight j * end_at s j) once) ∙ sum_by-places (λ j. weight j * end_at s j) order 0
      ∙ ap (λ k. total_below k (λ r. weight (at order r) * end_at s (at order r))) (length-OnceBelow once))

  pub answered : {Costs : Frac → Type 0} {Pieces : Schedule → Type 0} (ps : List Piece) (value : ℕ) (ends : ℕ → ℕ)
      → total_below n (λ r. weight (at order r) * ends r) ≡ value → Feasible i (over_one ps) → Within i (over_one ps) → IsAnswer i (over_one ps)
      → ((r : ℕ) → r < n → end_of (over_one ps) (at order r) ≤ℤ pos (ends r))
      → ((t : Schedule) → Feasible i t → nat_abs t.unit * value ≤ total_below n (λ r. weight (at order r) * end_at t (at order r)))
      → Pieces (over_one ps) → CutsNone (over_one ps) → ((cost : Frac) → IsOver cost (pos value) (pos 1) → Costs cost)
      → IsSolved i Costs Pieces (over_one ps)
  answered ps value ends is feasible within answer early lower pieces uncut costs = record {
    best = record { feasible = feasible; least = least };
    within = within;
    answer = answer;
    pieces = pieces;
    uncut = uncut;
    cost = λ c over. costs c (subst (λ x. IsOver c x (pos 1)) cost over);
  }
    where
      s : Schedule
      s = over_one ps

      upper : cost_of i s ≤ℤ pos value
      upper = subst₂ (λ x y. x ≤ℤ pos y) (sym (cost_in_order s)) is (pos-le (total_below-mono n (λ r. weight (at order r) * end_at s (at order r)) (λ r. weight (at order r) * ends r)
          (λ r l. mul-le-mul_left (weight (at order r)) (le-pos (subst (λ x. x ≤ℤ pos (ends r)) (natural (end_of s (at order r)) (last_end-natural ps (at order r))) (early r l))))))

      bound : (t : Schedule) → Feasible i t → (t.unit *ℤ pos value) ≤ℤ cost_of i t
      bound t f = subst₂ (λ u c. (u *ℤ pos value) ≤ℤ c) (sym (natural t.unit (omega (arith, ints, f.unit)))) (sym (cost_in_order t)) (pos-le (lower t f))

      cost : cost_of i s ≡ pos value
      cost = ≤ℤ_antisym upper (subst (λ x. x ≤ℤ cost_of i s) (one-*ℤ (pos value)) (bound s feasible))

      least : (t : Schedule) → Feasible i t → (cost_of i s *ℤ t.unit) ≤ℤ (cost_of i t *ℤ pos 1)
      least t f = subst₂ (λ x y. x ≤ℤ y) (*ℤ_comm t.unit (pos value) ∙ ap (λ c. c *ℤ t.unit) (sym cost)) (sym (*ℤ-one (cost_of i t))) (bound t f)
