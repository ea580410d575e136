-- The weight of late jobs as a cost, and what an instance of the table's class has.
use Rattle.std.proofs.Common.{◌≡◌, ℕ, ◌*◌, ◌≤◌, Bool, true, false, cond, get_or, pos, ◌*ℤ◌, All, if◌then◌else◌, ap, subst, ◌∙◌, arith, length}
use Rattle.msp_class.specs.declared.sizes.TheConstants.{GREATEST}
use Rattle.msp_class.specs.declared.class.Crit.TheVariants.{SumWU}
use Rattle.msp_class.specs.Crit.{is_greatest, uses_weight}
use Rattle.msp_class.proofs.Sums.{total_below-scale, int_total_below-natural}
use Rattle.msp_instance.specs.declared.Instance.{Instance}
use Rattle.msp_instance.specs.Instance.{job_at}
use Rattle.msp_instance.specs.Conditions.{HasWeight, Inner}
use Rattle.msp_pieces.specs.declared.Schedule.{Schedule}
use Rattle.msp_pieces.specs.Cost.{job_cost, end_of, cost_of}
use Rattle.msp_pieces.proofs.costs.Charges.{charge_of, cost_of-sum}
use Rattle.msp_pieces.proofs.costs.LateJobs.{is_late}
use Rattle.msp_route.proofs.PlainJobs.{IsPlainFree, IsPlainFree-from}
use Rattle.msp_route.proofs.OnTimeFirst.{late_weight}
use Rattle.msp_weighted.specs.Late.{late_class}
use Rattle.msp_weighted.specs.Values.{weight_at}
use Rattle.std.proofs.lemmas.Int.{ints}

pub record IsLateInstance (i : Instance) : Type 0 where
  pub free : IsPlainFree i SumWU
  pub light : All (λ j. j.weight ≤ GREATEST) i.jobs
  pub heavy : All (λ j. 1 ≤ j.weight) i.jobs

pub IsLateInstance-from_class : (i : Instance) → i.class ≡ late_class → Inner i → IsLateInstance i
IsLateInstance-from_class i e h = record {
  free = IsPlainFree-from i SumWU e h;
  light = λ k d l. (subst (λ c. HasWeight (uses_weight c.crit) (get_or i.jobs k d).weight) e (h.conditions.jobs k d l).weight).1;
  heavy = λ k d l. (subst (λ c. HasWeight (uses_weight c.crit) (get_or i.jobs k d).weight) e (h.conditions.jobs k d l).weight).0;
}

-- what the late jobs of a schedule weigh is its cost
pub late_weight_cost : (i : Instance) (s : Schedule) (d : ℕ) → i.class.crit ≡ SumWU → s.unit ≡ pos d → cost_of i s ≡ pos (d * late_weight i (weight_at i) s)
late_weight_cost i s d e u =
    cost_of-sum i s (ap is_greatest e)
    ∙ int_total_below-natural (length i.jobs) (charge_of i s) (λ j. d * cond (is_late i s j) (weight_at i j) 0)
    (λ j l. ap (λ c. job_cost c s.unit (job_at i j) (end_of s j)) e ∙ ap (λ x. pos (weight_at i j) *ℤ (if is_late i s j then x else pos 0)) u ∙ one (weight_at i j) (is_late i s j))
    ∙ ap pos (total_below-scale (length i.jobs) d (λ j. cond (is_late i s j) (weight_at i j) 0))
  where
    one : (w : ℕ) (b : Bool) → (pos w *ℤ (if b then pos d else pos 0)) ≡ pos (d * cond b w 0)
    one w true = omega (arith, ints)
    one w false = omega (arith, ints)
