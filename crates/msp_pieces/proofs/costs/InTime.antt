-- Jobs that end in time: by their due dates and a bound together. The greatest lateness is at most the bound exactly where all do, and no
-- job is late exactly where all do by their due dates alone.
use Rattle.std.proofs.Common.{◌≡◌, ℕ, ◌<◌, Bool, length, ℤ, pos, ◌+ℤ◌, ◌-ℤ◌, ◌*ℤ◌, ◌≤ℤ◌, if◌then◌else◌, refl, sym, ap, subst, ◌∙◌, arith}
use Rattle.std.specs.Prelude.{int_lt, ◌↔◌, nat_abs}
use Rattle.std.proofs.lemmas.Int.{ints}
use Rattle.msp_class.specs.declared.class.Crit.TheVariants.{Lmax, SumU}
use Rattle.msp_class.specs.Crit.{is_greatest}
use Rattle.msp_class.proofs.IntegerRing.{*ℤ-add, *ℤ_comm, +ℤ_idr, ≤ℤ_trans, natural, pos-same}
use Rattle.msp_class.specs.Sums.{total_below, int_total_below}
use Rattle.msp_class.proofs.Sums.{total_below-term, total_below-none, int_total_below-natural}
use Rattle.msp_instance.specs.declared.Instance.{Instance}
use Rattle.msp_instance.specs.Instance.{job_at}
use Rattle.msp_pieces.specs.declared.Schedule.{Schedule}
use Rattle.msp_pieces.specs.Cost.{end_of, job_cost, cost_of}
use Rattle.msp_pieces.proofs.costs.Charges.{charge_of, cost_of-sum, cost_of-bound, cost_of-least}
use Rattle.std.proofs.lemmas.Bool.{cond_both}

-- the job ends by its due date and the bound together
abbrev pub EndsInTime : Instance → ℤ → Schedule → ℕ → Type 0
EndsInTime i bound s k = end_of s k ≤ℤ (s.unit *ℤ ((job_at i k).due +ℤ bound))

-- ---- the greatest lateness
shares : (x p q r t : ℤ) → t ≡ p +ℤ q → r ≡ q → (x ≤ℤ t) ↔ ((x -ℤ p) ≤ℤ r)
shares x p q r t e f = ((λ h. omega (arith, ints)), (λ h. omega (arith, ints)))

pub lateness_in_time : (i : Instance) (bound : ℤ) (s : Schedule) (k : ℕ) → i.class.crit ≡ Lmax → EndsInTime i bound s k ↔ (charge_of i s k ≤ℤ (bound *ℤ s.unit))
lateness_in_time i bound s k e = subst (λ c. EndsInTime i bound s k ↔ (job_cost c s.unit (job_at i k) (end_of s k) ≤ℤ (bound *ℤ s.unit))) (sym e)
    (shares (end_of s k) (s.unit *ℤ (job_at i k).due) (s.unit *ℤ bound) (bound *ℤ s.unit) (s.unit *ℤ ((job_at i k).due +ℤ bound)) (*ℤ-add s.unit (job_at i k).due bound) (*ℤ_comm bound s.unit))

pub meets_jobs : (i : Instance) (bound : ℤ) (s : Schedule) → i.class.crit ≡ Lmax → 0 < length i.jobs → (cost_of i s ≤ℤ (bound *ℤ s.unit)) ↔ ((k : ℕ) → k < length i.jobs → EndsInTime i bound s k)
meets_jobs i bound s e some = (
  (λ h k l. (lateness_in_time i bound s k e).1 (≤ℤ_trans (cost_of-bound i s (ap is_greatest e) k l) h)),
  (λ h. cost_of-least i s (bound *ℤ s.unit) (ap is_greatest e) some (λ k l. (lateness_in_time i bound s k e).0 (h k l))),
)

-- ---- sums that are 0
pub sum_zero : (n : ℕ) (g : ℕ → ℤ) → ((k : ℕ) → k < n → pos 0 ≤ℤ g k) → (int_total_below n g ≡ pos 0) ↔ ((k : ℕ) → k < n → g k ≡ pos 0)
sum_zero n g nonneg = ((λ e k l. natural (g k) (nonneg k l) ∙ ap pos (omega (arith, total_below-term n f k l, pos-same (sym whole ∙ e)))), all)
  where
    f : ℕ → ℕ
    f k = nat_abs (g k)

    whole : int_total_below n g ≡ pos (total_below n f)
    whole = int_total_below-natural n g f (λ k l. natural (g k) (nonneg k l))

    all : ((k : ℕ) → k < n → g k ≡ pos 0) → int_total_below n g ≡ pos 0
    all h = whole ∙ ap pos (total_below-none n f (λ k l. ap nat_abs (h k l)))

pub late_zero : (unit t x : ℤ) → pos 1 ≤ℤ unit → (x ≤ℤ t) ↔ ((if int_lt t x then unit else pos 0) ≡ pos 0)
late_zero unit t x u = cond_both (int_lt t x) unit (pos 0) (λ z. (x ≤ℤ t) ↔ (z ≡ pos 0))
    (λ e. ((λ h. absurd (omega (arith, ints))), (λ h. absurd (omega (arith, ints))))) (λ e. ((λ h. refl), (λ h. omega (arith, ints))))

pub late_nonneg : (b : Bool) (unit : ℤ) → pos 1 ≤ℤ unit → pos 0 ≤ℤ (if b then unit else pos 0)
late_nonneg b unit u = cond_both b unit (pos 0) (λ z. pos 0 ≤ℤ z) (λ _. omega (arith, ints)) (λ _. omega (arith, ints))

-- ---- the number of late jobs
pub free_jobs : (i : Instance) (s : Schedule) → i.class.crit ≡ SumU → pos 1 ≤ℤ s.unit → (cost_of i s ≡ pos 0) ↔ ((k : ℕ) → k < length i.jobs → EndsInTime i (pos 0) s k)
free_jobs i s e u = (
  (λ h k l. subst (λ d. end_of s k ≤ℤ (s.unit *ℤ d)) (sym (+ℤ_idr (job_at i k).due)) ((late_zero s.unit (s.unit *ℤ (job_at i k).due) (end_of s k) u).1 (sym (charge k) ∙ zero.0 (sym sum ∙ h) k l))),
  (λ h. sum ∙ zero.1 (λ k l. charge k ∙ (late_zero s.unit (s.unit *ℤ (job_at i k).due) (end_of s k) u).0 (subst (λ d. end_of s k ≤ℤ (s.unit *ℤ d)) (+ℤ_idr (job_at i k).due) (h k l)))),
)
  where
    charge : (k : ℕ) → charge_of i s k ≡ (if int_lt (s.unit *ℤ (job_at i k).due) (end_of s k) then s.unit else pos 0)
    charge k = ap (λ c. job_cost c s.unit (job_at i k) (end_of s k)) e

    sum : cost_of i s ≡ int_total_below (length i.jobs) (charge_of i s)
    sum = cost_of-sum i s (ap is_greatest e)

    zero : (int_total_below (length i.jobs) (charge_of i s) ≡ pos 0) ↔ ((k : ℕ) → k < length i.jobs → charge_of i s k ≡ pos 0)
    zero = sum_zero (length i.jobs) (charge_of i s) (λ k l. subst (λ x. pos 0 ≤ℤ x) (sym (charge k)) (late_nonneg (int_lt (s.unit *ℤ (job_at i k).due) (end_of s k)) s.unit u))
