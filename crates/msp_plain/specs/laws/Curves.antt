-- The row from the greatest lateness to the greatest cost by curves: charges are the same.
use Rattle.std.proofs.Common.{◌≡◌, ℕ, ◌*◌, ◌≤◌, get_or, map, All, ℤ, pos, neg_ℤ, ◌+ℤ◌, ◌-ℤ◌, ◌*ℤ◌, Some, refl, sym, ap, subst, ◌∙◌, arith}
use Rattle.std.proofs.lemmas.Bool.{eqb-true}
use Rattle.std.proofs.lemmas.Int.{ints}
use Rattle.std.proofs.lemmas.List.{length-map}
use Rattle.std.proofs.lemmas.List.Elements.{All-map, All-nil}
use Rattle.msp_class.specs.declared.class.Crit.TheVariants.{Lmax, Fmax}
use Rattle.msp_class.specs.declared.environments.EnvKind.{EnvKind}
use Rattle.msp_class.specs.declared.environments.EnvKind.TheVariants.{Identical}
use Rattle.msp_class.specs.Env.{kind_of}
use Rattle.msp_class.specs.Crit.{is_greatest, uses_due, uses_weight}
use Rattle.msp_class.proofs.RankLemmas.{crit_number-injective}
use Rattle.msp_class.proofs.IntegerRing.{one-*ℤ, *ℤ-neg, +ℤ_idr}
use Rattle.msp_class.specs.declared.sizes.TheConstants.{GREATEST, GREATEST_MULTIPLE}
use Rattle.msp_instance.specs.declared.Job.{Job}
use Rattle.msp_instance.specs.declared.Instance.{Instance}
use Rattle.msp_instance.specs.Conditions.{IsJobOf, HasSameTimes, HasDue, HasWeight, LiesWithin, Inner, inner_limits, inner_factor}
use Rattle.msp_pieces.specs.Cost.{job_cost, lateness}
use Rattle.msp_pieces.proofs.costs.Charges.{SameCharges-from_map}
use Rattle.msp_pieces.proofs.changes.Serves.{SameNeeds-from_map, SameWork-from_map}
use Rattle.msp_table.specs.Rows.{goes_of, table}
use Rattle.msp_route.specs.Law.{Applies}
use Rattle.msp_plain.specs.Changes.{by_curve, led_by_curves}
use Rattle.msp_route.proofs.InnerChanges.{changed, common_time-map, Inner-changed, IsJobOf-recast, HasNearDues-map}
use Rattle.msp_route.specs.Stays.{SchedulesStay}
use Rattle.msp_route.proofs.Alike.{Alike-led, stay-alike}
use Rattle.msp_route.specs.Sizes.{greatest_row_date}
use Rattle.msp_route.proofs.Applied.{part_alone}

-- a due date in the range of the class
dated : (i : Instance) → i.class.crit ≡ Lmax → (a : Job) → IsJobOf (inner_limits (kind_of i.class.env)) i a → LiesWithin (2 * GREATEST * inner_factor (kind_of i.class.env)) a.due
dated i e a h = subst (λ c. HasDue (inner_limits (kind_of i.class.env)) (uses_due c) a.due) e h.due

turned_sign : (n : ℕ) (d : ℤ) → LiesWithin n d → LiesWithin n (neg_ℤ d)
turned_sign n d h = (omega (arith, ints, h.0, h.1), omega (arith, ints, h.0, h.1))

-- the lateness is what the curve charges
curve_charge : (unit : ℤ) (a : Job) (x : ℤ) → lateness unit a x ≡ job_cost Fmax unit (by_curve a) x
curve_charge unit a x =
    apart x (unit *ℤ a.due)
    ∙ ap (λ z. x +ℤ z) (sym (*ℤ-neg unit a.due) ∙ ap (λ z. unit *ℤ z) (sym (+ℤ_idr (neg_ℤ a.due))))
    ∙ ap (λ z. z +ℤ (unit *ℤ (neg_ℤ a.due +ℤ pos 0))) (sym (one-*ℤ x))
  where
    apart : (x y : ℤ) → (x -ℤ y) ≡ x +ℤ neg_ℤ y
    apart x y = omega (arith, ints)

by_curve_inner : (i : Instance) → i.class.crit ≡ Lmax → Inner i → Inner (changed i i.class.order i.class.heads i.class.times Fmax (map by_curve i.jobs))
by_curve_inner i e inner = Inner-changed i i.class.order i.class.heads i.class.times Fmax (map by_curve i.jobs) (length-map i.jobs by_curve)
    (All-map (IsJobOf (inner_limits (kind_of i.class.env)) lower) by_curve i.jobs (λ k d l. own (get_or i.jobs k d) (inner.conditions.jobs k d l)))
    inner.conditions.arcs (λ j l. inner.conditions.degree j (omega (arith, length-map i.jobs by_curve))) (HasNearDues-map _ i lower by_curve refl (λ m n a b. omega (arith, ints))) inner
  where
    lower : Instance
    lower = changed i i.class.order i.class.heads i.class.times Fmax (map by_curve i.jobs)

    own : (a : Job) → IsJobOf (inner_limits (kind_of i.class.env)) i a → IsJobOf (inner_limits (kind_of i.class.env)) lower (by_curve a)
    own a h = IsJobOf-recast h.needs refl refl h.needs.times
        (subst (λ t. HasSameTimes i.class.times t a.needs) (sym (common_time-map i lower by_curve refl (λ a. refl) inner.conditions.some)) h.times) h.release refl
        (subst (λ c. HasWeight (uses_weight c) a.weight) e h.weight) (record { slope = omega arith; base = turned_sign _ a.due (dated i e a h); few = omega arith; steps = All-nil _ })

pub stay_9 : (i : Instance) → Inner i → Applies 9 i → SchedulesStay 9 i (led_by_curves i)
unfolding goes_of table
stay_9 i inner h = let (b, g) = part_alone _ _ h in by (crit_number-injective _ Lmax (eqb-true _ _ b)) g
  where
    by : i.class.crit ≡ Lmax → goes_of 9 i.class ≡ Some (record i.class { crit = Fmax }) → SchedulesStay 9 i (led_by_curves i)
    by e g =
        let lower = changed i i.class.order i.class.heads i.class.times Fmax (map by_curve i.jobs) in
        stay-alike (Alike-led 9 i (record i.class { crit = Fmax }) (map by_curve i.jobs) g (record {
          lower = record { inner = by_curve_inner i e inner; class = g };
          work = SameWork-from_map i lower by_curve (SameNeeds-from_map i lower by_curve refl refl refl refl refl (λ a. refl)) refl (λ a. refl) refl;
          charges = SameCharges-from_map i lower by_curve refl (ap is_greatest e) (λ a unit x u p. ap (λ c. job_cost c unit a x) e ∙ curve_charge unit a x);
        })) inner

-- due dates fit their type, with either sign
factor_bound : (k : EnvKind) → inner_factor k ≤ GREATEST_MULTIPLE
factor_bound Identical = omega arith
factor_bound _ = omega arith

pub date_fits : (k : EnvKind) (d : ℤ) → LiesWithin (2 * GREATEST * inner_factor k) d → LiesWithin greatest_row_date d
date_fits k d h = let b = factor_bound k in (omega (arith, ints, h.0, b), omega (arith, ints, h.1, b))

pub dates_within : (i : Instance) → Inner i → i.class.crit ≡ Lmax → All (λ j. LiesWithin greatest_row_date j.due) i.jobs
dates_within i inner e = λ k d l. date_fits (kind_of i.class.env) (get_or i.jobs k d).due (dated i e (get_or i.jobs k d) (inner.conditions.jobs k d l))

pub dates_fit : (i : Instance) → Inner i → Applies 9 i → All (λ j. LiesWithin greatest_row_date j.due) i.jobs
unfolding goes_of table
dates_fit i inner h = let (b, g) = part_alone _ _ h in dates_within i inner (crit_number-injective _ Lmax (eqb-true _ _ b))
