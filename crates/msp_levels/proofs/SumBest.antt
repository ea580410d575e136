-- On outtrees the schedule of the rule is feasible, by each moment as many jobs have ended as can, and so it is best.
use Rattle.std.proofs.Common.{◌≡◌, ℕ, ◌+◌, ◌-◌, ◌*◌, ◌<◌, ◌≤◌, inl, Bool, true, false, ltb, List, length, ℤ, pos, nat_abs, ◌*ℤ◌, ◌≤ℤ◌, le_antisymm, le_trans, refl, sym, ap, subst, subst₂, ◌∙◌, arith, one-mul}
use Rattle.std.specs.Prelude.{int_le}
use Rattle.std.proofs.lemmas.Bool.{ltb-true, lt-ltb, true_from_ne_false}
use Rattle.std.proofs.lemmas.Int.{ints}
use Rattle.msp_class.specs.Crit.{is_greatest}
use Rattle.msp_class.specs.Env.{kind_of}
use Rattle.msp_class.specs.Sums.{total_below, int_total_below}
use Rattle.msp_class.proofs.IntegerRing.{natural, pos-le, le-pos, ≤ℤ_trans, one-*ℤ, *ℤ-cancel, *ℤ-mono_nonneg}
use Rattle.msp_class.proofs.Sums.{total_below-mono, int_total_below-mono, int_total_below-scale, int_total_below-pos, int_total_below-natural}
use Rattle.msp_instance.specs.declared.Instance.{Instance}
use Rattle.msp_instance.specs.Instance.{no_job, job_at, common_time}
use Rattle.msp_instance.specs.Conditions.{Inner, inner_limits}
use Rattle.msp_pieces.specs.declared.Piece.{Piece}
use Rattle.msp_pieces.specs.declared.Schedule.{Schedule}
use Rattle.msp_pieces.specs.declared.Frac.{Frac}
use Rattle.msp_pieces.specs.Fraction.{IsOver}
use Rattle.msp_pieces.specs.Feasible.{Feasible}
use Rattle.msp_pieces.specs.Cost.{cost_of, end_of, job_cost}
use Rattle.msp_pieces.proofs.costs.Charges.{charge_of, cost_of-sum}
use Rattle.msp_pieces.proofs.feasible.OfClass.{IsOfClass, IsOfClass-from}
use Rattle.msp_route.specs.Bounds.{IsBestAnswer}
use Rattle.msp_route.proofs.OneEach.{one_each_is_answer}
use Rattle.msp_route.proofs.Owed.{unit_one}
use Rattle.msp_slots.specs.Places.{ArePlaces, EndAfterPlaces, TakeCommonTime}
use Rattle.msp_slots.specs.Seating.{one_if}
use Rattle.msp_slots.proofs.LeastCosts.{IsBestAt, IsBestAt-from}
use Rattle.msp_slots.proofs.ListSchedules.{begins_soon, list_in_units}
use Rattle.msp_slots.proofs.Places.{law_of_places}
use Rattle.msp_slots.proofs.UnitPieces.{HasUnitJobs, HasUnitJobs-from, IsInUnits}
use Rattle.msp_levels.specs.Sums.{levels_sum_class, most_ended, least_sum, IsLeastSum, ended_by, EndsMost}
use Rattle.msp_levels.specs.Steps.{AreByLevel}
use Rattle.msp_levels.proofs.ByLevel.{no_greater}
use Rattle.msp_levels.proofs.Ended.{begun, begun-most, most-begun, sum_of_ends}
use Rattle.msp_levels.proofs.Slots.{slot_with_room}

int_le-from : (a b : ℤ) → a ≤ℤ b → int_le a b ≡ true
int_le-from a b h = true_from_ne_false (int_le a b) (λ e. omega (arith, ints, h, e))

int_le-to : (a b : ℤ) → int_le a b ≡ true → a ≤ℤ b
int_le-to a b e = omega (arith, ints)

module _ (i : Instance) (class : i.class ≡ levels_sum_class) (inner : Inner i) where
  abbrev n : ℕ
  n = length i.jobs

  abbrev t : IsOfClass i levels_sum_class
  t = IsOfClass-from i levels_sum_class class inner

  unit_jobs : HasUnitJobs i
  unit_jobs = HasUnitJobs-from i _ _ _ _ refl t

  one_time : common_time i ≡ 1
  one_time = unit_jobs.ones 0 (omega (arith, t.some))

  times : TakeCommonTime i
  times j b k d l = (t.jobs j no_job b).times k d l ∙ sym one_time

  charge : (s : Schedule) (k : ℕ) → charge_of i s k ≡ end_of s k
  charge s k = ap (λ c. job_cost c s.unit (job_at i k) (end_of s k)) t.crit

  cost_is : (s : Schedule) → cost_of i s ≡ int_total_below n (charge_of i s)
  cost_is s = cost_of-sum i s (ap is_greatest t.crit)

  -- ---- any feasible schedule
  module _ (s : Schedule) (f : Feasible i s) where
    abbrev unit : ℕ
    unit = nat_abs s.unit

    unit_is : s.unit ≡ pos unit
    unit_is = natural s.unit (omega (arith, ints, f.unit))

    placed : (place : ℕ → ℕ) × ArePlaces i place × EndAfterPlaces i s place
    placed = law_of_places (inner_limits (kind_of i.class.env)) i s (inl t.kind) t.cut inner.conditions times f

    abbrev place : ℕ → ℕ
    place = placed.0

    ends_after : (j : ℕ) → j < n → (s.unit *ℤ pos (place j + 1)) ≤ℤ end_of s j
    ends_after j b = subst (λ x. (s.unit *ℤ pos x) ≤ℤ end_of s j) (ap (λ c. c * (place j + 1)) one_time ∙ one-mul (place j + 1)) (placed.2 j b)

    lower : (s.unit *ℤ pos (least_sum i)) ≤ℤ cost_of i s
    lower =
        ≤ℤ_trans (*ℤ-mono_nonneg s.unit (omega (arith, ints, f.unit)) (pos-le sums))
        (subst₂ (λ x y. x ≤ℤ y) (int_total_below-scale n s.unit (λ j. pos (place j + 1)) ∙ ap (λ x. s.unit *ℤ x) (int_total_below-pos n (λ j. place j + 1))) (sym (cost_is s))
        (int_total_below-mono n (λ j. s.unit *ℤ pos (place j + 1)) (charge_of i s) (λ j b. subst (λ x. (s.unit *ℤ pos (place j + 1)) ≤ℤ x) (sym (charge s j)) (ends_after j b))))
      where
        sums : least_sum i ≤ total_below n (λ j. place j + 1)
        sums = subst (λ x. least_sum i ≤ x) (sym (sum_of_ends n place placed.1.early))
            (total_below-mono n (λ t. n - most_ended i t) (λ t. n - begun n place t) (λ t l. omega (arith, begun-most i place placed.1 t)))

    no_more : (t : ℕ) → ended_by i s t ≤ most_ended i t
    no_more t = omega (
      arith,
      begun-most i place placed.1 t,
      total_below-mono n (λ j. one_if (int_le (end_of s j) (s.unit *ℤ pos t))) (λ j. one_if (ltb (place j) t)) (λ j b. by j b (int_le (end_of s j) (s.unit *ℤ pos t)) refl),
    )
      where
        early : (j : ℕ) → j < n → end_of s j ≤ℤ (s.unit *ℤ pos t) → place j < t
        early j b h = omega (
          arith,
          le-pos (*ℤ-cancel unit (omega (arith, le-pos (subst (λ x. pos 1 ≤ℤ x) unit_is f.unit)))
              (subst (λ u. (u *ℤ pos (place j + 1)) ≤ℤ (u *ℤ pos t)) unit_is (≤ℤ_trans (ends_after j b) h))),
        )

        by : (j : ℕ) → j < n → (b : Bool) → int_le (end_of s j) (s.unit *ℤ pos t) ≡ b → one_if b ≤ one_if (ltb (place j) t)
        by j b false e = omega arith
        by j b true e = omega (arith, ap one_if (lt-ltb (place j) t (early j b (int_le-to (end_of s j) (s.unit *ℤ pos t) e))))

  -- ---- the schedule of the rule
  module _ (pieces : List Piece) (r : AreByLevel i pieces) where
    abbrev made : Schedule
    made = record { unit = pos 1; pieces = pieces }

    abbrev begin : ℕ → ℕ
    begin = r.runs.begin

    units : IsInUnits i begin pieces
    units = list_in_units i r.order pieces r.runs unit_jobs (λ j l. (t.jobs j no_job l).release)

    as_many : (t : ℕ) → most_ended i t ≤ begun n begin t
    as_many = most-begun i begin (slot_with_room i r.level (record { few = t.degree; ends = t.ends; levels = r.levels })
        r.order (no_greater r.level r.order r.by_level.falls) begin r.runs.machine r.runs.runs)

    upper : cost_of i made ≤ℤ pos (least_sum i)
    upper =
        subst (λ x. x ≤ℤ pos (least_sum i)) (sym (cost_is made ∙ int_total_below-natural n (charge_of i made) (λ j. begin j + 1) (λ j b. charge made j ∙ units.runs.ends j b)))
        (pos-le (subst (λ x. x ≤ least_sum i) (sym (sum_of_ends n begin (begins_soon i r.order pieces r.runs)))
        (total_below-mono n (λ t. n - begun n begin t) (λ t. n - most_ended i t) (λ t l. omega (arith, as_many t)))))

    best_at : IsBestAt i pieces (pos (least_sum i))
    best_at = IsBestAt-from i pieces (pos (least_sum i)) units.runs.feasible upper lower

    ends_most : EndsMost i made
    ends_most = record { here = λ t. le_antisymm (no_more made units.runs.feasible t) (le_trans (as_many t) (in_time t)); anywhere = λ s t f. no_more s f t }
      where
        in_time : (t : ℕ) → begun n begin t ≤ ended_by i made t
        in_time t = total_below-mono n (λ j. one_if (ltb (begin j) t)) (λ j. one_if (int_le (end_of made j) (pos 1 *ℤ pos t))) (λ j b. by j b (ltb (begin j) t) refl)
          where
            by : (j : ℕ) → j < n → (b : Bool) → ltb (begin j) t ≡ b → one_if b ≤ one_if (int_le (end_of made j) (pos 1 *ℤ pos t))
            by j b false e = omega arith
            by j b true e = omega (
              arith,
              ap one_if (int_le-from (end_of made j) (pos 1 *ℤ pos t)
                  (subst₂ (λ x y. x ≤ℤ y) (sym (units.runs.ends j b)) (sym (one-*ℤ (pos t))) (pos-le (omega (arith, ltb-true (begin j) t e))))),
            )

-- what the schedule of the rule has
pub record IsSumAnswer (i : Instance) (s : Schedule) : Type 0 where
  pub best : IsBestAnswer i s
  pub cost : (result : Frac) → IsOver result (cost_of i s) s.unit → IsLeastSum i result
  pub most : EndsMost i s

pub IsSumAnswer-from : (i : Instance) → i.class ≡ levels_sum_class → Inner i → (pieces : List Piece) → AreByLevel i pieces → IsSumAnswer i (record { unit = pos 1; pieces = pieces })
IsSumAnswer-from i class inner pieces r =
    let units = units i class inner pieces r in
    let at = best_at i class inner pieces r in
    record {
      best = record { best = at.best; answer = one_each_is_answer i units.runs.uncut 1 pieces units.runs.one_each (unit_one (kind_of i.class.env)) };
      cost = λ result over. subst (λ x. IsOver result x (pos 1)) at.cost over;
      most = ends_most i class inner pieces r;
    }
