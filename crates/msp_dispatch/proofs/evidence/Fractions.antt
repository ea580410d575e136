-- Fractions in lowest terms: no other form of them has smaller numbers.
use Rattle.std.proofs.Common.{◌≡◌, ℕ, ◌+◌, ◌*◌, ◌-◌, ◌<◌, ◌≤◌, ℤ, pos, ◌*ℤ◌, ◌≤ℤ◌, unsigned_abs, nat_abs, sym, ap, ap₂, ◌∙◌, subst, arith}
use Rattle.std.specs.Int.{IsGcd}
use Rattle.std.proofs.Math.Nat.{eq-one_of_dvd-one, dvd-mul_left}
use Rattle.std.proofs.lemmas.Nat.Gcd.{dvd_refl}
use Rattle.std.proofs.lemmas.Int.{ints, unsigned_abs-mul}
use Rattle.msp_class.proofs.IntegerRing.{natural, pos-same, le-pos, zero-le-pos, ≤ℤ_of_same, ≤ℤ_trans, ≤ℤ_antisym, *ℤ_comm, *ℤ_assoc, *ℤ_exchange, *ℤ-cancel_same, *ℤ-zero, *ℤ-one, *ℤ-cancel}
use Rattle.msp_pieces.specs.declared.Frac.{Frac}
use Rattle.msp_pieces.specs.declared.Schedule.{Schedule}
use Rattle.msp_pieces.specs.declared.Solution.{Solution}
use Rattle.msp_pieces.specs.Fraction.{IsOver, IsLowest, IsSameFraction}
use Rattle.msp_pieces.specs.Cost.{cost_of, Best, IsBest}
use Rattle.msp_instance.specs.declared.Instance.{Instance}
use Rattle.msp_cert.proofs.LeastForms.{least_form}

-- a fraction in lowest terms by natural numbers
pub record IsNatural (f : Frac) (x u : ℕ) : Type 0 where
  pub n : ℕ
  pub d : ℕ
  pub num : f.num ≡ pos n
  pub den : f.den ≡ pos d
  pub num_small : n ≤ x
  pub den_small : d ≤ u

pub IsNatural-lowest : (f : Frac) (x u : ℕ) → 1 ≤ u → IsOver f (pos x) (pos u) → IsLowest f → IsNatural f x u
IsNatural-lowest f x u unit over low =
    let den : f.den ≡ pos (nat_abs f.den) = natural f.den (omega (arith, ints, f.positive)) in
    let num : f.num ≡ pos (nat_abs f.num) = natural f.num (sign (nat_abs f.den) den) in
    let least = by (nat_abs f.num) (nat_abs f.den) num den in
    record { n = nat_abs f.num; d = nat_abs f.den; num = num; den = den; num_small = least.0; den_small = least.1 }
  where
    sign : (d : ℕ) → f.den ≡ pos d → pos 0 ≤ℤ f.num
    sign d is = *ℤ-cancel u unit (≤ℤ_trans (≤ℤ_of_same (*ℤ-zero (pos u))) (≤ℤ_trans (zero-le-pos (x * d)) (≤ℤ_of_same (sym (*ℤ_comm (pos u) f.num ∙ over ∙ ap (λ y. pos x *ℤ y) is)))))

    by : (n d : ℕ) → f.num ≡ pos n → f.den ≡ pos d → (n ≤ x) × (d ≤ u)
    by n d num den =
        let cross : n * u ≡ x * d = pos-same (sym (ap (λ y. y *ℤ pos u) num) ∙ over ∙ ap (λ y. pos x *ℤ y) den) in
        let some : 1 ≤ d = le-pos (subst (λ y. pos 1 ≤ℤ y) den f.positive) in
        let common : IsGcd n d 1 = subst (λ y. IsGcd (unsigned_abs y) d 1) num (subst (λ y. IsGcd (unsigned_abs f.num) (unsigned_abs y) 1) den low) in
        least_form (n + d) n d x u (omega arith) some unit common cross

-- a whole number in lowest terms
pub whole_lowest : (f : Frac) (x : ℤ) → IsOver f x (pos 1) → IsLowest f → (f.num ≡ x) × (f.den ≡ pos 1)
whole_lowest f x over low = by (nat_abs f.den) (natural f.den (omega (arith, ints, f.positive)))
  where
    by : (m : ℕ) → f.den ≡ pos m → (f.num ≡ x) × (f.den ≡ pos 1)
    by m den =
        let num : f.num ≡ x *ℤ pos m = sym (*ℤ-one f.num) ∙ over ∙ ap (λ y. x *ℤ y) den in
        let sizes : IsGcd (unsigned_abs x * m) m 1 = subst (λ y. IsGcd y m 1) (ap unsigned_abs num ∙ unsigned_abs-mul x (pos m)) (subst (λ y. IsGcd (unsigned_abs f.num) (unsigned_abs y) 1) den low) in
        let one : m ≡ 1 = eq-one_of_dvd-one (sizes.2 m (dvd-mul_left m (unsigned_abs x)) (dvd_refl m)) in
        (num ∙ ap (λ k. x *ℤ pos k) one ∙ *ℤ-one x, den ∙ ap pos one)

-- ---- two forms of one fraction
pub same_over : (f g : Frac) (x u : ℤ) → IsSameFraction f g → IsOver f x u → IsOver g x u
same_over f g x u same over = *ℤ-cancel_same (nat_abs f.den) some (subst (λ d. d *ℤ (g.num *ℤ u) ≡ d *ℤ (x *ℤ g.den)) den both)
  where
    den : f.den ≡ pos (nat_abs f.den)
    den = natural f.den (omega (arith, ints, f.positive))

    some : 0 < nat_abs f.den
    some = le-pos (subst (λ y. pos 1 ≤ℤ y) den f.positive)

    both : f.den *ℤ (g.num *ℤ u) ≡ f.den *ℤ (x *ℤ g.den)
    both =
        sym (*ℤ_assoc f.den g.num u) ∙ ap (λ y. y *ℤ u) (*ℤ_comm f.den g.num ∙ sym same ∙ *ℤ_comm f.num g.den) ∙ *ℤ_assoc g.den f.num u ∙ ap (λ y. g.den *ℤ y) (over ∙ *ℤ_comm x f.den)
        ∙ *ℤ_exchange g.den f.den x ∙ ap (λ y. f.den *ℤ y) (*ℤ_comm g.den x)

pub same_values : (f g : Frac) (c d : ℤ) (u v : ℤ) → pos 1 ≤ℤ u → pos 1 ≤ℤ v → IsOver f c u → IsOver g d v → c *ℤ v ≡ d *ℤ u → IsSameFraction f g
same_values f g c d u v one two over_f over_g e =
    by (nat_abs u) (nat_abs v) (natural u (omega (arith, ints, one))) (natural v (omega (arith, ints, two)))
  where
    left : u *ℤ (v *ℤ (f.num *ℤ g.den)) ≡ (v *ℤ c) *ℤ (f.den *ℤ g.den)
    left =
        *ℤ_exchange u v (f.num *ℤ g.den) ∙ ap (λ y. v *ℤ y) (sym (*ℤ_assoc u f.num g.den) ∙ ap (λ y. y *ℤ g.den) (*ℤ_comm u f.num ∙ over_f) ∙ *ℤ_assoc c f.den g.den)
        ∙ sym (*ℤ_assoc v c (f.den *ℤ g.den))

    right : u *ℤ (v *ℤ (g.num *ℤ f.den)) ≡ (u *ℤ d) *ℤ (g.den *ℤ f.den)
    right =
        ap (λ y. u *ℤ y) (sym (*ℤ_assoc v g.num f.den) ∙ ap (λ y. y *ℤ f.den) (*ℤ_comm v g.num ∙ over_g) ∙ *ℤ_assoc d g.den f.den)
        ∙ sym (*ℤ_assoc u d (g.den *ℤ f.den))

    both : u *ℤ (v *ℤ (f.num *ℤ g.den)) ≡ u *ℤ (v *ℤ (g.num *ℤ f.den))
    both = left ∙ ap₂ (λ y z. y *ℤ z) (*ℤ_comm v c ∙ e ∙ *ℤ_comm d u) (*ℤ_comm f.den g.den) ∙ sym right

    by : (m n : ℕ) → u ≡ pos m → v ≡ pos n → IsSameFraction f g
    by m n eu ev =
        *ℤ-cancel_same n (le-pos (subst (λ y. pos 1 ≤ℤ y) ev two)) (*ℤ-cancel_same m (le-pos (subst (λ y. pos 1 ≤ℤ y) eu one))
        (subst (λ y. pos m *ℤ (y *ℤ (f.num *ℤ g.den)) ≡ pos m *ℤ (y *ℤ (g.num *ℤ f.den))) ev (subst (λ y. y *ℤ (v *ℤ (f.num *ℤ g.den)) ≡ y *ℤ (v *ℤ (g.num *ℤ f.den))) eu both)))

-- ---- best schedules
pub best_costs : (i : Instance) (s t : Schedule) → Best i s → Best i t → cost_of i s *ℤ t.unit ≡ cost_of i t *ℤ s.unit
best_costs i s t a b = ≤ℤ_antisym (a.least t b.feasible) (b.least s a.feasible)

-- two best solutions cost the same
pub same_best : (i : Instance) (s t : Solution) → IsBest i s → IsBest i t → IsSameFraction s.cost t.cost
same_best i s t a b = same_values s.cost t.cost _ _ s.schedule.unit t.schedule.unit a.best.feasible.unit b.best.feasible.unit a.cost b.cost (best_costs i s.schedule t.schedule a.best b.best)

-- the value that each best schedule costs
pub best_value : (i : Instance) (s : Solution) (value : ℤ) → IsBest i s → cost_of i s.schedule ≡ s.schedule.unit *ℤ value → IsOver s.cost value (pos 1)
best_value i s value h e = by (nat_abs s.schedule.unit) (natural s.schedule.unit (omega (arith, ints, h.best.feasible.unit)))
  where
    both : s.schedule.unit *ℤ s.cost.num ≡ s.schedule.unit *ℤ (value *ℤ s.cost.den)
    both = *ℤ_comm s.schedule.unit s.cost.num ∙ h.cost ∙ ap (λ y. y *ℤ s.cost.den) e ∙ *ℤ_assoc s.schedule.unit value s.cost.den

    by : (m : ℕ) → s.schedule.unit ≡ pos m → IsOver s.cost value (pos 1)
    by m is = *ℤ-one s.cost.num ∙ *ℤ-cancel_same m (le-pos (subst (λ y. pos 1 ≤ℤ y) is h.best.feasible.unit)) (subst (λ y. y *ℤ s.cost.num ≡ y *ℤ (value *ℤ s.cost.den)) is both)

-- the same, by the value that some best schedule costs
pub value_of_best : (i : Instance) (s : Solution) (t : Schedule) (value : ℤ) → IsBest i s → Best i t → cost_of i t ≡ t.unit *ℤ value → IsOver s.cost value (pos 1)
value_of_best i s t value h b e = best_value i s value h (by (nat_abs t.unit) (natural t.unit (omega (arith, ints, b.feasible.unit))))
  where
    both : t.unit *ℤ cost_of i s.schedule ≡ t.unit *ℤ (s.schedule.unit *ℤ value)
    both = *ℤ_comm t.unit _ ∙ best_costs i s.schedule t h.best b ∙ ap (λ y. y *ℤ s.schedule.unit) e ∙ *ℤ_assoc t.unit value s.schedule.unit ∙ ap (λ y. t.unit *ℤ y) (*ℤ_comm value s.schedule.unit)

    by : (m : ℕ) → t.unit ≡ pos m → cost_of i s.schedule ≡ s.schedule.unit *ℤ value
    by m is = *ℤ-cancel_same m (le-pos (subst (λ y. pos 1 ≤ℤ y) is b.feasible.unit)) (subst (λ y. y *ℤ cost_of i s.schedule ≡ y *ℤ (s.schedule.unit *ℤ value)) is both)
