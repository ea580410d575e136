-- Raised due dates: the instance is an inner one, and the law of the threshold rows.
use Rattle.std.proofs.Common.{◌≡◌, ℕ, ◌*◌, ◌<◌, true, false, length, get_or, map, All, inl, inr, ℤ, pos, ◌+ℤ◌, ◌-ℤ◌, ◌*ℤ◌, ◌≤ℤ◌, refl, sym, ap, subst, subst₂, ◌∙◌, arith}
use Rattle.std.specs.Prelude.{int_lt, ◌↔◌}
use Rattle.std.specs.Int.{int_max}
use Rattle.std.proofs.lemmas.Int.{ints}
use Rattle.std.proofs.lemmas.List.{length-map}
use Rattle.std.proofs.lemmas.List.Elements.{All-map, All-contains}
use Rattle.msp_class.specs.declared.class.Crit.{Crit}
use Rattle.msp_class.specs.declared.class.Crit.TheVariants.{Lmax}
use Rattle.msp_class.specs.Env.{kind_of}
use Rattle.msp_class.specs.Crit.{is_greatest, uses_due, uses_weight, uses_curve}
use Rattle.msp_class.proofs.IntegerRing.{≤ℤ_trans, int_max-left, ≤ℤ-int_max_left, ≤ℤ-int_max_right}
use Rattle.msp_class.specs.Sums.{int_total_below}
use Rattle.msp_class.proofs.Sums.{int_total_below-same}
use Rattle.msp_instance.specs.declared.Job.{Job}
use Rattle.msp_instance.specs.declared.Instance.{Instance}
use Rattle.msp_instance.specs.Instance.{job_at}
use Rattle.msp_instance.specs.Conditions.{IsJobOf, HasSameTimes, HasDue, HasWeight, HasCurve, LiesWithin, Inner, inner_limits}
use Rattle.msp_pieces.specs.declared.Schedule.{Schedule}
use Rattle.msp_pieces.specs.Feasible.{Feasible}
use Rattle.msp_pieces.specs.Cost.{end_of, job_cost, cost_of}
use Rattle.msp_pieces.proofs.feasible.Frames.{frame_of, Fits, job_at-map, IsShaped, IsShaped-from_conditions, Fits-from_feasible, HasWork-from_conditions}
use Rattle.msp_pieces.proofs.feasible.LastEnds.{last_end-bound, last_end-reached}
use Rattle.msp_pieces.proofs.costs.Charges.{charge_of, cost_of-sum}
use Rattle.msp_pieces.proofs.costs.InTime.{meets_jobs, sum_zero, late_zero, late_nonneg}
use Rattle.msp_pieces.proofs.changes.Serves.{SameWork, SameWork-sym, SameNeeds-from_map, SameWork-from_map, IsShaped-same, Feasible-same}
use Rattle.msp_plain.specs.Changes.{raised, shift_of}
use Rattle.msp_plain.specs.Threshold.{IsThresholdSum, IsThreshold, Meets, IsInTime}
use Rattle.msp_route.proofs.InnerChanges.{common_time-map, Inner-changed, IsJobOf-recast, HasNearDues-map}

-- what both sums have in common with the greatest lateness
sum_uses : (crit : Crit) → IsThresholdSum crit → (uses_due crit ≡ true) × (uses_weight crit ≡ false) × (uses_curve crit ≡ false)
sum_uses crit (inl e) = (ap uses_due e, ap uses_weight e, ap uses_curve e)
sum_uses crit (inr e) = (ap uses_due e, ap uses_weight e, ap uses_curve e)

pub Inner-shifted : (i : Instance) (bound : ℤ) (crit : Crit) → Inner i → i.class.crit ≡ Lmax → IsThresholdSum crit →
    All (λ j. LiesWithin (inner_limits (kind_of i.class.env)).greatest_date (j.due +ℤ bound)) i.jobs → Inner (shift_of bound crit i)
Inner-shifted i bound crit inner e sum dates = Inner-changed i i.class.order i.class.heads i.class.times crit (map (raised bound) i.jobs) (length-map i.jobs (raised bound))
    (All-map (IsJobOf (inner_limits (kind_of i.class.env)) (shift_of bound crit i)) (raised bound) i.jobs (λ k d l. own (get_or i.jobs k d) (dates k d l) (inner.conditions.jobs k d l)))
    inner.conditions.arcs (λ j l. inner.conditions.degree j (omega (arith, length-map i.jobs (raised bound))))
    (HasNearDues-map _ i (shift_of bound crit i) (raised bound) refl (λ m n a b. closer _ (job_at i m).due (job_at i n).due bound (inner.dues m n a b))) inner
  where
    own : (a : Job) → LiesWithin (inner_limits (kind_of i.class.env)).greatest_date (a.due +ℤ bound)
        → IsJobOf (inner_limits (kind_of i.class.env)) i a → IsJobOf (inner_limits (kind_of i.class.env)) (shift_of bound crit i) (raised bound a)
    own a d h = IsJobOf-recast h.needs refl refl h.needs.times
        (subst (λ t. HasSameTimes i.class.times t a.needs) (sym (common_time-map i (shift_of bound crit i) (raised bound) refl (λ a. refl) inner.conditions.some)) h.times)
        h.release (subst (λ b. HasDue (inner_limits (kind_of i.class.env)) b (a.due +ℤ bound)) (sym (sum_uses crit sum).0) d)
        (subst (λ b. HasWeight b a.weight) (ap uses_weight e ∙ sym (sum_uses crit sum).1) h.weight)
        (subst (λ b. HasCurve (inner_limits (kind_of i.class.env)) b a.curve) (ap uses_curve e ∙ sym (sum_uses crit sum).2) h.curve)

    closer : (n : ℕ) (x y b : ℤ) → (x -ℤ y) ≤ℤ pos n → ((x +ℤ b) -ℤ (y +ℤ b)) ≤ℤ pos n
    closer n x y b h = omega (arith, ints)

shift_work : (i : Instance) (bound : ℤ) (crit : Crit) → SameWork i (shift_of bound crit i)
shift_work i bound crit = let j = shift_of bound crit i in SameWork-from_map i j (raised bound) (SameNeeds-from_map i j (raised bound) refl refl refl refl refl (λ a. refl)) refl (λ a. refl) refl

-- ---- the bound, job by job
pub meets_pieces : (i : Instance) (bound : ℤ) (s : Schedule) → Inner i → Feasible i s → i.class.crit ≡ Lmax → All (IsInTime i.jobs s.unit bound) s.pieces ↔ Meets i s bound
meets_pieces i bound s inner f e = (up, down)
  where
    fits : Fits (frame_of i) s.unit s.pieces
    fits = Fits-from_feasible i s (IsShaped-from_conditions (inner_limits (kind_of i.class.env)) i inner.conditions) f

    up : All (IsInTime i.jobs s.unit bound) s.pieces → Meets i s bound
    up h = (meets_jobs i bound s e inner.conditions.some).1 (λ k l.
        let (p, c, job, end) = last_end-reached (frame_of i) s.unit s.pieces fits (HasWork-from_conditions (inner_limits (kind_of i.class.env)) i inner.conditions) k l in
        subst₂ (λ x j. x ≤ℤ (s.unit *ℤ ((job_at i j).due +ℤ bound))) end job (All-contains (IsInTime i.jobs s.unit bound) s.pieces p h c))

    down : Meets i s bound → All (IsInTime i.jobs s.unit bound) s.pieces
    down h k d l =
        let place = f.place k d l in
        ≤ℤ_trans (last_end-bound s.pieces k d l) ((meets_jobs i bound s e inner.conditions.some).0 h (get_or s.pieces k d).job place.job)

-- ---- sums that are 0
tardy_zero : (t x : ℤ) → (x ≤ℤ t) ↔ (int_max (pos 0) (x -ℤ t) ≡ pos 0)
tardy_zero t x = ((λ h. int_max-left (pos 0) (x -ℤ t) (omega (arith, ints))), (λ h. below (x -ℤ t) refl (subst (λ z. (x -ℤ t) ≤ℤ z) h (≤ℤ-int_max_right (pos 0) (x -ℤ t)))))
  where
    below : (y : ℤ) → y ≡ x -ℤ t → y ≤ℤ pos 0 → x ≤ℤ t
    below y e h = omega (arith, ints)

-- what a job costs by either sum at its raised due date
record IsZeroInTime (crit : Crit) (unit : ℤ) (bound : ℤ) (a : Job) (x : ℤ) : Type 0 where
  nonneg : pos 0 ≤ℤ job_cost crit unit (raised bound a) x
  zero_is : (x ≤ℤ (unit *ℤ (a.due +ℤ bound))) ↔ (job_cost crit unit (raised bound a) x ≡ pos 0)

zero_in_time : (crit : Crit) (unit bound : ℤ) (a : Job) (x : ℤ) → IsThresholdSum crit → pos 1 ≤ℤ unit → IsZeroInTime crit unit bound a x
zero_in_time crit unit bound a x (inl e) u = subst (λ c. IsZeroInTime c unit bound a x) (sym e)
    (record { nonneg = late_nonneg (int_lt (unit *ℤ (a.due +ℤ bound)) x) unit u; zero_is = late_zero unit (unit *ℤ (a.due +ℤ bound)) x u })
zero_in_time crit unit bound a x (inr e) u = subst (λ c. IsZeroInTime c unit bound a x) (sym e)
    (record { nonneg = ≤ℤ-int_max_left (pos 0) (x -ℤ (unit *ℤ (a.due +ℤ bound))); zero_is = tardy_zero (unit *ℤ (a.due +ℤ bound)) x })

sum_is : (crit : Crit) → IsThresholdSum crit → is_greatest crit ≡ false
sum_is crit (inl e) = ap is_greatest e
sum_is crit (inr e) = ap is_greatest e

pub threshold : (i : Instance) (bound : ℤ) (crit : Crit) (s : Schedule) → Inner i → i.class.crit ≡ Lmax → IsThresholdSum crit → IsThreshold i bound crit s
threshold i bound crit s inner e sum = record {
  same = (Feasible-same i later s shaped work, Feasible-same later i s (IsShaped-same i later work.needs shaped) (SameWork-sym i later work));
  meets = λ f. (
    (λ h. sum_of f ∙ (zero f).1 (λ k l. (at k l f).zero_is.0 ((meets_jobs i bound s e inner.conditions.some).0 h k l))),
    (λ h. (meets_jobs i bound s e inner.conditions.some).1 (λ k l. (at k l f).zero_is.1 ((zero f).0 (sym (sum_of f) ∙ h) k l))),
  );
}
  where
    later : Instance
    later = shift_of bound crit i

    shaped : IsShaped i
    shaped = IsShaped-from_conditions (inner_limits (kind_of i.class.env)) i inner.conditions

    work : SameWork i later
    work = shift_work i bound crit

    charge : ℕ → ℤ
    charge k = job_cost crit s.unit (raised bound (job_at i k)) (end_of s k)

    at : (k : ℕ) → k < length i.jobs → Feasible i s → IsZeroInTime crit s.unit bound (job_at i k) (end_of s k)
    at k l f = zero_in_time crit s.unit bound (job_at i k) (end_of s k) sum f.unit

    zero : Feasible i s → (int_total_below (length i.jobs) charge ≡ pos 0) ↔ ((k : ℕ) → k < length i.jobs → charge k ≡ pos 0)
    zero f = sum_zero (length i.jobs) charge (λ k l. (at k l f).nonneg)

    sum_of : Feasible i s → cost_of later s ≡ int_total_below (length i.jobs) charge
    sum_of f =
        cost_of-sum later s (sum_is crit sum) ∙ ap (λ n. int_total_below n (charge_of later s)) (length-map i.jobs (raised bound))
        ∙ int_total_below-same (length i.jobs) (charge_of later s) charge (λ k l. ap (λ a. job_cost crit s.unit a (end_of s k)) (job_at-map i later (raised bound) refl k l))
