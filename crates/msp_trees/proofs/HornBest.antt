-- The jobs back to back in a cheapest order are a best schedule.
use Rattle.std.proofs.Common.{◌≡◌, ℕ, ◌*◌, ◌<◌, ◌≤◌, List, length, pos, nat_abs, ◌*ℤ◌, ◌≤ℤ◌, refl, sym, ap, subst, subst₂, ◌∙◌, arith, slice_index_or}
use Rattle.std.proofs.lemmas.Int.{ints}
use native.Mathlib.Nat.{mul-le-mul_left}
use Rattle.std.proofs.lemmas.List.{get_or_past}
use Rattle.msp_class.proofs.IntegerRing.{natural, ≤ℤ_of_same, ≤ℤ_trans, *ℤ-one}
use Rattle.msp_class.proofs.Sums.{OnceBelow}
use Rattle.msp_class.specs.declared.class.Crit.TheVariants.{SumWC}
use Rattle.msp_instance.specs.declared.Instance.{Instance}
use Rattle.msp_instance.specs.Instance.{no_job, no_need}
use Rattle.msp_instance.specs.Conditions.{Inner, HasDegree, entering}
use Rattle.msp_instance.proofs.CycleLemmas.{OnceBelow-from_sequence}
use Rattle.msp_pieces.specs.declared.Schedule.{Schedule}
use Rattle.msp_pieces.specs.Feasible.{Feasible}
use Rattle.msp_pieces.specs.Cost.{cost_of}
use Rattle.msp_pieces.specs.BackToBack.{weighted_ends, piece, time_at, schedule_in_order}
use Rattle.msp_pieces.proofs.lists.BackToBack.{last-weighted_ends_below}
use Rattle.msp_pieces.proofs.costs.Charges.{SameCharges-from_jobs}
use Rattle.msp_pieces.proofs.feasible.InSeries.{may_precede}
use Rattle.msp_pieces.proofs.feasible.OneMachine.{weighted_cost}
use Rattle.msp_pieces.proofs.feasible.BackToBack.{piece_makes}
use Rattle.msp_pieces.specs.LineUp.{order_of_ends}
use Rattle.msp_pieces.proofs.changes.LineUp.{IsLine as IsOneLine, IsLine-from_conditions, SameLine-refl, cost-lined_up, forward_by_ends, order_of_ends-once, order_of_ends-rises}
use Rattle.msp_pieces.proofs.changes.Exchange.{cost_of-lined_up}
use Rattle.msp_trees.specs.Horn.{horn_class}
use Rattle.msp_trees.specs.Horn.{before, weight_at}
use Rattle.msp_trees.specs.Joining.{IsCheapest}
use Rattle.msp_route.proofs.PlainJobs.{IsPlain, IsPlain-from}
use Rattle.msp_route.proofs.BackToBackAnswer.{IsBestRow, timed, short_jobs}
use Rattle.msp_route.proofs.Owed.{over_units}
use Rattle.msp_route.proofs.BackToBackArcs.{forward_is_feasible}
use Rattle.msp_trees.proofs.Joins.{IsTree}
use Rattle.msp_trees.proofs.Before.{before_within, before_start, forward_from_arcs, steps_forward, no_loop, before_loose}

-- what an instance of the class has
pub record IsHornInstance (i : Instance) : Type 0 where
  pub crit : i.class.crit ≡ SumWC
  pub plain : IsPlain i
  pub line : IsOneLine i
  pub inner : Inner i
  pub few : (j : ℕ) → j < length i.jobs → entering i.arcs j ≤ 1
  pub tree : IsTree (length i.jobs) (before i) (time_at i)

pub IsHornInstance-from_class : (i : Instance) → i.class ≡ horn_class → Inner i → IsHornInstance i
IsHornInstance-from_class i e h =
    let ends = h.conditions.ends in
    let (order, q, forward) = h.acyclic in
    let once = OnceBelow-from_sequence i order q in
    record {
      crit = ap (λ c. c.crit) e;
      plain = IsPlain-from i (ap (λ c. c.env) e) (ap (λ c. c.times) e) (ap (λ c. c.heads) e) h;
      line = IsLine-from_conditions _ i (ap (λ c. c.env) e) h.conditions;
      inner = h;
      few = λ j l. subst (λ o. HasDegree o i.arcs j) (ap (λ c. c.order) e) (h.conditions.degree j l);
      tree = record {
        within = λ j l. before_within i ends j;
        loose = before_loose i ends order q forward;
        start = λ j l s. let at = before_start i ends in absurd (omega (arith, at, s, l));
        time = ap (λ j. (slice_index_or j.needs 0 no_need).time) (get_or_past i.jobs (length i.jobs) no_job (omega arith));
        forward = (order, once, forward_from_arcs i ends order once (may_precede i order q ends forward));
      };
    }

module _ (i : Instance) (h : IsHornInstance i) (order : List ℕ) (o : IsCheapest (length i.jobs) (before i) (time_at i) (weight_at i) order) where
  -- ---- it is feasible
  horn_is_feasible : Feasible i (schedule_in_order i order)
  horn_is_feasible = let (all, q, forward) = h.inner.acyclic in
      forward_is_feasible i h.plain order o.once (no_loop i h.inner.conditions.ends all q forward)
      (steps_forward i h.inner.conditions.ends h.few order o.forward)

  -- ---- no schedule costs less
  abbrev least_cost : ℕ
  least_cost = weighted_ends (time_at i) (weight_at i) 0 order

  horn_cost : cost_of i (schedule_in_order i order) ≡ pos least_cost
  horn_cost = weighted_cost i (schedule_in_order i order) h.crit (timed i h.plain order o.once)
      ∙ ap pos (last-weighted_ends_below piece piece_makes (time_at i) (weight_at i) (length i.jobs) 0 order o.once)

  module _ (t : Schedule) (f : Feasible i t) where
    abbrev by_ends : List ℕ
    by_ends = order_of_ends i t

    abbrev D : ℕ
    D = nat_abs t.unit

    once_by_ends : OnceBelow (length i.jobs) by_ends
    once_by_ends = order_of_ends-once i t

    least_by_ends : least_cost ≤ weighted_ends (time_at i) (weight_at i) 0 by_ends
    least_by_ends = o.least by_ends once_by_ends (forward_from_arcs i h.inner.conditions.ends by_ends once_by_ends (forward_by_ends i h.line t f by_ends once_by_ends (order_of_ends-rises i t)))

    abbrev its_cost : ℕ
    its_cost = weighted_ends (time_at i) (weight_at i) 0 by_ends

    ends_cost : pos (D * its_cost) ≤ℤ cost_of i t
    ends_cost =
        ≤ℤ_trans (≤ℤ_of_same (sym (cost_of-lined_up i h.line h.crit D (omega (arith, ints, f.unit)) by_ends once_by_ends)))
        (cost-lined_up i i h.line h.line (SameLine-refl i) t f by_ends once_by_ends (order_of_ends-rises i t) (SameCharges-from_jobs i i refl refl (λ k l. (refl, refl, refl))))

    horn_beats : (cost_of i (schedule_in_order i order) *ℤ t.unit) ≤ℤ (cost_of i t *ℤ pos 1)
    horn_beats = ≤ℤ_trans (over_units _ (pos (D * its_cost)) t.unit least_cost (D * its_cost) D horn_cost refl (natural t.unit (omega (arith, ints, f.unit))) (mul-le-mul_left D least_by_ends))
        (subst₂ (λ x y. x ≤ℤ y) (sym (*ℤ-one (pos (D * its_cost)))) (sym (*ℤ-one (cost_of i t))) ends_cost)

  pub horn_row : IsBestRow i order
  horn_row = record { short = short_jobs i h.plain order o.once; best = record { feasible = horn_is_feasible; least = horn_beats } }
