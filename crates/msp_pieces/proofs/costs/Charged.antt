-- What jobs cost over two units: no less where they end no earlier.
use Rattle.std.proofs.Common.{◌≡◌, ℕ, ◌<◌, false, length, ℤ, pos, nat_abs, ◌*ℤ◌, ◌≤ℤ◌, sym, ap, subst, subst₂, ◌∙◌, arith}
use Rattle.std.proofs.lemmas.Int.{ints}
use Rattle.msp_class.specs.declared.class.Crit.{Crit}
use Rattle.msp_class.specs.Crit.{is_greatest}
use Rattle.msp_class.specs.Sums.{int_total_below}
use Rattle.msp_class.proofs.Sums.{int_total_below-mono, int_total_below-scale}
use Rattle.msp_class.proofs.IntegerRing.{natural, ≤ℤ_trans, *ℤ_comm, *ℤ-mono_nonneg}
use Rattle.msp_instance.specs.declared.Instance.{Instance}
use Rattle.msp_instance.specs.declared.Job.{Job}
use Rattle.msp_instance.specs.Instance.{job_at}
use Rattle.msp_pieces.specs.declared.Schedule.{Schedule}
use Rattle.msp_pieces.specs.Feasible.{Feasible}
use Rattle.msp_pieces.specs.Cost.{job_cost, end_of, cost_of, Best}
use Rattle.msp_pieces.proofs.costs.Charges.{charge_of, cost_of-sum, job_cost-mono, job_cost-scale}

-- at e over u, and at x over d
pub costs_no_less : (crit : Crit) (j : Job) (u d : ℕ) (e x : ℤ) → 0 < u → 0 < d → (pos d *ℤ e) ≤ℤ (pos u *ℤ x)
    → (pos d *ℤ job_cost crit (pos u) j e) ≤ℤ (pos u *ℤ job_cost crit (pos d) j x)
costs_no_less crit j u d e x p q h =
    subst₂ (λ a b. a ≤ℤ b) (job_cost-scale d q (pos u) crit j e) (ap (λ v. job_cost crit v j (pos u *ℤ x)) (*ℤ_comm (pos d) (pos u)) ∙ job_cost-scale u p (pos d) crit j x)
    (job_cost-mono crit (pos d *ℤ pos u) j (pos d *ℤ e) (pos u *ℤ x) (omega (arith, ints)) h)

-- what all jobs cost at moments over u
abbrev pub cost_when : Instance → ℕ → (ℕ → ℤ) → ℕ → ℤ
cost_when i u moment j = job_cost i.class.crit (pos u) (job_at i j) (moment j)

abbrev pub sum_when : Instance → ℕ → (ℕ → ℤ) → ℤ
sum_when i u moment = int_total_below (length i.jobs) (cost_when i u moment)

-- a schedule in which none ends earlier costs no less
pub sum_no_less : (i : Instance) (t : Schedule) (u : ℕ) (moment : ℕ → ℤ) → is_greatest i.class.crit ≡ false → 0 < u → pos 1 ≤ℤ t.unit
    → ((j : ℕ) → j < length i.jobs → (t.unit *ℤ moment j) ≤ℤ (pos u *ℤ end_of t j)) → (t.unit *ℤ sum_when i u moment) ≤ℤ (pos u *ℤ cost_of i t)
sum_no_less i t u moment sums some unit h =
    subst₂ (λ x y. x ≤ℤ y) (int_total_below-scale (length i.jobs) t.unit (cost_when i u moment))
    (int_total_below-scale (length i.jobs) (pos u) (charge_of i t) ∙ ap (λ x. pos u *ℤ x) (sym (cost_of-sum i t sums)))
    (int_total_below-mono (length i.jobs) (λ j. t.unit *ℤ cost_when i u moment j) (λ j. pos u *ℤ charge_of i t j) each)
  where
    unit_is : t.unit ≡ pos (nat_abs t.unit)
    unit_is = natural t.unit (omega (arith, ints, unit))

    each : (j : ℕ) → j < length i.jobs → (t.unit *ℤ cost_when i u moment j) ≤ℤ (pos u *ℤ charge_of i t j)
    each j l =
        subst (λ x. (x *ℤ cost_when i u moment j) ≤ℤ (pos u *ℤ job_cost i.class.crit x (job_at i j) (end_of t j))) (sym unit_is)
        (costs_no_less i.class.crit (job_at i j) u (nat_abs t.unit) (moment j) (end_of t j) some (omega (arith, ints, unit)) (subst (λ x. (x *ℤ moment j) ≤ℤ (pos u *ℤ end_of t j)) unit_is (h j l)))

-- so a schedule is best that costs no more than at moments than which no job of any other ends earlier
pub best_by_moments : (i : Instance) (s : Schedule) (u : ℕ) → is_greatest i.class.crit ≡ false → s.unit ≡ pos u → 0 < u → Feasible i s
    → ((t : Schedule) → Feasible i t → (moment : ℕ → ℤ) × (cost_of i s ≤ℤ sum_when i u moment) × ((j : ℕ) → j < length i.jobs → (t.unit *ℤ moment j) ≤ℤ (pos u *ℤ end_of t j))) → Best i s
best_by_moments i s u sums is some feasible each = record { feasible = feasible; least = least }
  where
    least : (t : Schedule) → Feasible i t → (cost_of i s *ℤ t.unit) ≤ℤ (cost_of i t *ℤ s.unit)
    least t f =
        let (moment, less, ends) = each t f in
        subst₂ (λ x y. x ≤ℤ y) (*ℤ_comm t.unit (cost_of i s)) (*ℤ_comm (pos u) (cost_of i t) ∙ ap (λ x. cost_of i t *ℤ x) (sym is))
        (≤ℤ_trans (*ℤ-mono_nonneg t.unit (omega (arith, ints, f.unit)) less) (sum_no_less i t u moment sums some f.unit ends))
