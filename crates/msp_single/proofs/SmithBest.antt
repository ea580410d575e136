-- The jobs back to back in Smith's order are a best schedule.
use Rattle.std.proofs.Common.{◌≡◌, ℕ, inl, inr, List, length, pos, nat_abs, ◌*ℤ◌, ◌≤ℤ◌, AllPairs, ap, ◌∙◌, arith}
use Rattle.msp_class.specs.declared.class.Crit.TheVariants.{SumWC}
use Rattle.msp_class.proofs.Sums.{OnceBelow, OnceBelow-from_permutation}
use Rattle.msp_instance.specs.declared.Instance.{Instance}
use Rattle.msp_instance.specs.Instance.{job_at}
use Rattle.msp_instance.specs.Conditions.{Inner}
use Rattle.msp_pieces.specs.declared.Schedule.{Schedule}
use Rattle.msp_pieces.specs.Piece.{job_of, start, finish}
use Rattle.msp_pieces.specs.Feasible.{Feasible}
use Rattle.msp_pieces.specs.Cost.{cost_of}
use Rattle.msp_pieces.specs.BackToBack.{weighted_ends, piece, time_at, schedule_in_order}
use Rattle.msp_pieces.proofs.lists.BackToBack.{last-weighted_ends_below}
use Rattle.msp_pieces.proofs.lists.WeightedEnds.{SmithBefore, smith_beats_last}
use Rattle.msp_pieces.proofs.feasible.OneMachine.{IsPlan-from_feasible, weighted_cost}
use Rattle.msp_pieces.proofs.feasible.BackToBack.{piece_makes}
use Rattle.msp_single.specs.Smith.{smith_class, IsSmithOrder}
use Rattle.msp_route.proofs.Owed.{over_units}
use Rattle.msp_route.proofs.PlainJobs.{IsPlainFree, IsPlainFree-from}
use Rattle.msp_route.proofs.BackToBackAnswer.{IsBestRow, timed, short_jobs, free_is_feasible}

abbrev weight_at : Instance → ℕ → ℕ
weight_at i j = (job_at i j).weight

module _ (i : Instance) (h : IsPlainFree i SumWC) (order : List ℕ) (o : IsSmithOrder i order) where
  once : OnceBelow (length i.jobs) order
  once = OnceBelow-from_permutation o.all

  smith_pairs : AllPairs (SmithBefore (time_at i) (weight_at i)) order
  smith_pairs a b d l k = elim (o.sorted a b d l k) [ inl less ↦ omega (arith, less) | inr e ↦ omega (arith, e.0) ]

  -- the cost of the schedule in ℕ
  abbrev least_cost : ℕ
  least_cost = weighted_ends (time_at i) (weight_at i) 0 order

  smith_cost : cost_of i (schedule_in_order i order) ≡ pos least_cost
  smith_cost = weighted_cost i (schedule_in_order i order) h.crit_is (timed i h.plain order once)
      ∙ ap pos (last-weighted_ends_below piece piece_makes (time_at i) (weight_at i) (length i.jobs) 0 order once)

  smith_beats : (t : Schedule) → Feasible i t → (cost_of i (schedule_in_order i order) *ℤ t.unit) ≤ℤ (cost_of i t *ℤ pos 1)
  smith_beats t f =
      let p = IsPlan-from_feasible i h.plain.machine t f in
      over_units _ _ t.unit least_cost _ (nat_abs t.unit) smith_cost (weighted_cost i t h.crit_is p.timed) p.unit
      (smith_beats_last job_of start finish (length i.jobs) t.pieces (nat_abs t.unit) (time_at i) (weight_at i) order o.all smith_pairs p.jobs p.apart p.work)

  smith_row : IsBestRow i order
  smith_row = record { short = short_jobs i h.plain order once; best = record { feasible = free_is_feasible i h.plain order once h.arcs; least = smith_beats } }

pub is_smith_instance : (i : Instance) → i.class ≡ smith_class → Inner i → IsPlainFree i SumWC
is_smith_instance i = IsPlainFree-from i SumWC

pub IsBestRow-smith : (i : Instance) → i.class ≡ smith_class → Inner i → (order : List ℕ) → IsSmithOrder i order → IsBestRow i order
IsBestRow-smith i class inner order o = smith_row i (is_smith_instance i class inner) order o
