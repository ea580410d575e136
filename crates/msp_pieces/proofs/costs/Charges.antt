-- What one job costs at its end, its charge, and what all jobs cost together: how charges grow, stretch and compare.
use Rattle.std.proofs.Common.{◌≡◌, ℕ, suc, ◌<◌, ◌≤◌, Bool, true, false, ltb, List, [], ◌∷◌, length, get_or, map, fold, All, Contains, inl, inr, ℤ, pos, ◌+ℤ◌, ◌-ℤ◌, ◌*ℤ◌, ◌≤ℤ◌}
use Rattle.std.proofs.Common.{◌<ℤ◌, if◌then◌else◌, refl, sym, ap, ap₂, subst, subst₂, ◌∙◌, arith, zero-add}
use Rattle.std.specs.Prelude.{int_lt}
use Rattle.std.specs.Int.{int_max}
use Rattle.std.proofs.lemmas.Bool.{ltb-true, ltb-false, cases_Bool, cond_both, true_from_ne_false, false_from_ne_true}
use Rattle.std.proofs.lemmas.Int.{ints, fold-int_max_bounds, fold-int_max_reached}
use Rattle.std.proofs.lemmas.List.{length-map}
use Rattle.std.proofs.lemmas.List.Elements.{All-nil, All-cons}
use Rattle.msp_class.specs.declared.class.Class.{Class}
use Rattle.msp_class.specs.declared.class.Crit.{Crit}
use Rattle.msp_class.specs.declared.class.Crit.TheVariants.{Cmax, Lmax, Fmax, SumC, SumWC, SumU, SumWU, SumT, SumWT}
use Rattle.msp_class.specs.Crit.{is_greatest}
use Rattle.msp_class.proofs.IntegerRing.{≤ℤ_refl, ≤ℤ_trans, ≤ℤ_of_same, ≤ℤ_antisym, +ℤ_mono, one-*ℤ, *ℤ-zero, *ℤ_assoc, *ℤ_exchange, *ℤ-add, *ℤ-sub, *ℤ-mono, *ℤ-mono_nonneg}
use Rattle.msp_class.proofs.IntegerRing.{*ℤ-strict, *ℤ-cancel_lt, *ℤ-int_max, int_max_mono, pos-le, +ℤ_idr}
use Rattle.msp_class.specs.Sums.{int_total_below}
use Rattle.msp_class.proofs.Sums.{sum_by-mono, sum_by-agree, int_total_below-mono, int_total_below-scale}
use Rattle.msp_instance.specs.declared.Step.{Step}
use Rattle.msp_instance.specs.declared.Curve.{Curve}
use Rattle.msp_instance.specs.declared.Job.{Job}
use Rattle.msp_instance.specs.declared.Instance.{Instance}
use Rattle.msp_instance.specs.Instance.{no_job, job_at}
use Rattle.msp_pieces.specs.declared.Schedule.{Schedule}
use Rattle.msp_pieces.specs.Feasible.{total}
use Rattle.msp_pieces.specs.Cost.{end_of, jump, jumps, lateness, tardiness, late, job_cost, job_costs, greatest, cost_of}
use Rattle.msp_pieces.proofs.costs.Costs.{length-job_costs, get_or-job_costs}
use Rattle.msp_pieces.proofs.feasible.OneMachine.{total_costs}
use Rattle.msp_pieces.proofs.feasible.LastEnds.{last_end-natural}
use Rattle.msp_pieces.proofs.feasible.Frames.{job_at-map}

-- ---- `int_lt`
pub int_lt-true : (a b : ℤ) → a <ℤ b → int_lt a b ≡ true
int_lt-true a b h = true_from_ne_false (int_lt a b) (λ e. omega (arith, ints))

pub int_lt-same : (a b c d : ℤ) → (a <ℤ b → c <ℤ d) → (c <ℤ d → a <ℤ b) → int_lt a b ≡ int_lt c d
int_lt-same a b c d f g = elim (cases_Bool (int_lt a b)) [
  | inl e ↦ e ∙ sym (int_lt-true c d (f (omega (arith, ints))))
  | inr e ↦ e ∙ sym (false_from_ne_true (int_lt c d) (λ k. let h : a <ℤ b = g (omega (arith, ints)) in omega (arith, ints)))
]

int_lt-scale : (n : ℕ) → 0 < n → (a b : ℤ) → int_lt (pos n *ℤ a) (pos n *ℤ b) ≡ int_lt a b
int_lt-scale n p a b = int_lt-same (pos n *ℤ a) (pos n *ℤ b) a b (*ℤ-cancel_lt n) (*ℤ-strict n p)

-- ---- regular: a charge does not fall as the job ends later
below : (a b c : ℤ) → a ≤ℤ b → (a -ℤ c) ≤ℤ (b -ℤ c)
below a b c h = omega (arith, ints)

jump-mono : (unit : ℤ) (s : Step) (x y : ℤ) → x ≤ℤ y → jump unit s x ≤ jump unit s y
jump-mono unit s x y h = cond_both (int_lt (unit *ℤ pos s.above) x) s.add 0 (λ n. n ≤ jump unit s y)
    (λ e. omega (arith, ap (λ b. if b then s.add else 0) (int_lt-true (unit *ℤ pos s.above) y (omega (arith, ints))))) (λ e. omega arith)

jumps-mono : (unit : ℤ) (c : Curve) (x y : ℤ) → x ≤ℤ y → jumps unit c x ≤ jumps unit c y
jumps-mono unit c x y h = sum_by-mono (λ s. jump unit s x) (λ s. jump unit s y) c.steps (λ k d l. jump-mono unit (get_or c.steps k d) x y h)

late-mono : (unit : ℤ) (j : Job) (x y : ℤ) → pos 0 ≤ℤ unit → x ≤ℤ y → late unit j x ≤ℤ late unit j y
late-mono unit j x y u h = grind (arith, ints)

tardiness-mono : (unit : ℤ) (j : Job) (x y : ℤ) → x ≤ℤ y → tardiness unit j x ≤ℤ tardiness unit j y
tardiness-mono unit j x y h = int_max_mono (≤ℤ_refl (pos 0)) (below x y (unit *ℤ j.due) h)

pub job_cost-mono : (crit : Crit) (unit : ℤ) (j : Job) (x y : ℤ) → pos 0 ≤ℤ unit → x ≤ℤ y → job_cost crit unit j x ≤ℤ job_cost crit unit j y
job_cost-mono Lmax unit j x y u h = below x y (unit *ℤ j.due) h
job_cost-mono Fmax unit j x y u h = +ℤ_mono (*ℤ-mono j.curve.slope h) (*ℤ-mono_nonneg unit u (+ℤ_mono (≤ℤ_refl j.curve.base) (pos-le (jumps-mono unit j.curve x y h))))
job_cost-mono SumWC unit j x y u h = *ℤ-mono j.weight h
job_cost-mono SumU unit j x y u h = late-mono unit j x y u h
job_cost-mono SumWU unit j x y u h = *ℤ-mono j.weight (late-mono unit j x y u h)
job_cost-mono SumT unit j x y u h = tardiness-mono unit j x y h
job_cost-mono SumWT unit j x y u h = *ℤ-mono j.weight (tardiness-mono unit j x y h)
job_cost-mono _ unit j x y u h = h

-- ---- homogeneous: over n times the unit, a job that ends at n times the moment has n times the charge
module _ (n : ℕ) (p : 0 < n) (unit : ℤ) where
  abbrev units : ℤ
  units = pos n *ℤ unit

  jump-scale : (s : Step) (x : ℤ) → jump units s (pos n *ℤ x) ≡ jump unit s x
  jump-scale s x = ap (λ b. if b then s.add else 0) (ap (λ z. int_lt z (pos n *ℤ x)) (*ℤ_assoc (pos n) unit (pos s.above)) ∙ int_lt-scale n p (unit *ℤ pos s.above) x)

  jumps-scale : (c : Curve) (x : ℤ) → jumps units c (pos n *ℤ x) ≡ jumps unit c x
  jumps-scale c x = sum_by-agree (λ s. jump units s (pos n *ℤ x)) (λ s. jump unit s x) c.steps (λ s. jump-scale s x)

  late-scale : (j : Job) (x : ℤ) → late units j (pos n *ℤ x) ≡ pos n *ℤ late unit j x
  late-scale j x =
      ap (λ b. if b then units else pos 0) (ap (λ z. int_lt z (pos n *ℤ x)) (*ℤ_assoc (pos n) unit j.due) ∙ int_lt-scale n p (unit *ℤ j.due) x)
      ∙ elim (int_lt (unit *ℤ j.due) x) as (λ b. (if b then units else pos 0) ≡ pos n *ℤ (if b then unit else pos 0))
      [ true ↦ refl | false ↦ sym (*ℤ-zero (pos n)) ]

  lateness-scale : (j : Job) (x : ℤ) → lateness units j (pos n *ℤ x) ≡ pos n *ℤ lateness unit j x
  lateness-scale j x = ap (λ z. (pos n *ℤ x) -ℤ z) (*ℤ_assoc (pos n) unit j.due) ∙ sym (*ℤ-sub (pos n) x (unit *ℤ j.due))

  tardiness-scale : (j : Job) (x : ℤ) → tardiness units j (pos n *ℤ x) ≡ pos n *ℤ tardiness unit j x
  tardiness-scale j x = ap₂ int_max (sym (*ℤ-zero (pos n))) (lateness-scale j x) ∙ sym (*ℤ-int_max n (pos 0) (lateness unit j x))

  pub job_cost-scale : (crit : Crit) (j : Job) (x : ℤ) → job_cost crit (pos n *ℤ unit) j (pos n *ℤ x) ≡ pos n *ℤ job_cost crit unit j x
  job_cost-scale Cmax j x = refl
  job_cost-scale Lmax j x = lateness-scale j x
  job_cost-scale Fmax j x =
      ap₂ ◌+ℤ◌ (*ℤ_exchange (pos j.curve.slope) (pos n) x)
      (ap (λ m. units *ℤ (j.curve.base +ℤ pos m)) (jumps-scale j.curve x) ∙ *ℤ_assoc (pos n) unit (j.curve.base +ℤ pos (jumps unit j.curve x)))
      ∙ sym (*ℤ-add (pos n) (pos j.curve.slope *ℤ x) (unit *ℤ (j.curve.base +ℤ pos (jumps unit j.curve x))))
  job_cost-scale SumC j x = refl
  job_cost-scale SumWC j x = *ℤ_exchange (pos j.weight) (pos n) x
  job_cost-scale SumU j x = late-scale j x
  job_cost-scale SumWU j x = ap (λ z. pos j.weight *ℤ z) (late-scale j x) ∙ *ℤ_exchange (pos j.weight) (pos n) (late unit j x)
  job_cost-scale SumT j x = tardiness-scale j x
  job_cost-scale SumWT j x = ap (λ z. pos j.weight *ℤ z) (tardiness-scale j x) ∙ *ℤ_exchange (pos j.weight) (pos n) (tardiness unit j x)

-- ---- a charge reads of a job its due date, its weight and its curve
pub job_cost-reads : (crit : Crit) (unit : ℤ) (i j : Job) (x : ℤ) → i.due ≡ j.due → i.weight ≡ j.weight → i.curve ≡ j.curve → job_cost crit unit i x ≡ job_cost crit unit j x
job_cost-reads Lmax unit i j x d w c = ap (λ z. x -ℤ (unit *ℤ z)) d
job_cost-reads Fmax unit i j x d w c = ap (λ z. (pos z.slope *ℤ x) +ℤ (unit *ℤ (z.base +ℤ pos (jumps unit z x)))) c
job_cost-reads SumWC unit i j x d w c = ap (λ z. pos z *ℤ x) w
job_cost-reads SumU unit i j x d w c = ap (λ z. if int_lt (unit *ℤ z) x then unit else pos 0) d
job_cost-reads SumWU unit i j x d w c = ap₂ (λ y z. pos y *ℤ (if int_lt (unit *ℤ z) x then unit else pos 0)) w d
job_cost-reads SumT unit i j x d w c = ap (λ z. int_max (pos 0) (x -ℤ (unit *ℤ z))) d
job_cost-reads SumWT unit i j x d w c = ap₂ (λ y z. pos y *ℤ int_max (pos 0) (x -ℤ (unit *ℤ z))) w d
job_cost-reads _ unit i j x d w c = refl

-- ---- all jobs
-- the charge of the job of a number
abbrev pub charge_of : Instance → Schedule → ℕ → ℤ
charge_of i s k = job_cost i.class.crit s.unit (job_at i k) (end_of s k)

abbrev costs_list : Instance → Schedule → List ℤ
costs_list i s = job_costs i.class.crit s.unit (end_of s) 0 i.jobs

costs_list-at : (i : Instance) (s : Schedule) (k : ℕ) → k < length i.jobs → (z : ℤ) → get_or (costs_list i s) k z ≡ charge_of i s k
costs_list-at i s k l z = get_or-job_costs i.class.crit s.unit (end_of s) 0 k i.jobs no_job z l ∙ ap (λ n. job_cost i.class.crit s.unit (job_at i k) (end_of s n)) (zero-add k)

costs_list-length : (i : Instance) (s : Schedule) → length (costs_list i s) ≡ length i.jobs
costs_list-length i s = length-job_costs i.class.crit s.unit (end_of s) 0 i.jobs

cost_of-greatest : (i : Instance) (s : Schedule) → is_greatest i.class.crit ≡ true → cost_of i s ≡ greatest (costs_list i s)
cost_of-greatest i s e = ap (λ b. if b then greatest (costs_list i s) else total (costs_list i s)) e

-- the sum
pub cost_of-sum : (i : Instance) (s : Schedule) → is_greatest i.class.crit ≡ false → cost_of i s ≡ int_total_below (length i.jobs) (charge_of i s)
cost_of-sum i s e = ap (λ b. if b then greatest (costs_list i s) else total (costs_list i s)) e ∙ total_costs i.class.crit s.unit (end_of s) i

pub greatest-bound : (xs : List ℤ) → All (λ x. x ≤ℤ greatest xs) xs
greatest-bound [] = All-nil (λ x. x ≤ℤ pos 0)
greatest-bound (x ∷ xs) = let h = fold-int_max_bounds x xs (fold int_max x xs) refl in All-cons (λ y. y ≤ℤ fold int_max x xs) x xs h.0 h.1

pub greatest-reached : (xs : List ℤ) → 0 < length xs → Contains xs (greatest xs)
greatest-reached [] h = absurd (omega arith)
greatest-reached (x ∷ xs) h = elim (fold-int_max_reached x xs (fold int_max x xs) refl) [ inl e ↦ (0, omega arith, sym e) | inr c ↦ (suc c.0, omega (arith, c.1), c.2) ]

-- no job costs more than the greatest, and some job costs as much
pub cost_of-bound : (i : Instance) (s : Schedule) → is_greatest i.class.crit ≡ true → (k : ℕ) → k < length i.jobs → charge_of i s k ≤ℤ cost_of i s
cost_of-bound i s e k l = subst₂ (λ x y. x ≤ℤ y) (costs_list-at i s k l (pos 0)) (sym (cost_of-greatest i s e)) (greatest-bound (costs_list i s) k (pos 0) (omega (arith, costs_list-length i s)))

pub cost_of-reached : (i : Instance) (s : Schedule) → is_greatest i.class.crit ≡ true → 0 < length i.jobs → (k : ℕ) × (k < length i.jobs) × (charge_of i s k ≡ cost_of i s)
cost_of-reached i s e some =
    let (k, l, h) = greatest-reached (costs_list i s) (omega (arith, costs_list-length i s)) in
    let inside : k < length i.jobs = omega (arith, costs_list-length i s) in
    (k, inside, sym (costs_list-at i s k inside (greatest (costs_list i s))) ∙ h ∙ sym (cost_of-greatest i s e))

pub cost_of-least : (i : Instance) (s : Schedule) (b : ℤ) → is_greatest i.class.crit ≡ true → 0 < length i.jobs → ((k : ℕ) → k < length i.jobs → charge_of i s k ≤ℤ b) → cost_of i s ≤ℤ b
cost_of-least i s b e some h = let (k, l, r) = cost_of-reached i s e some in subst (λ x. x ≤ℤ b) r (h k l)

pub cost_of-none : (i : Instance) (s : Schedule) → is_greatest i.class.crit ≡ true → length i.jobs ≡ 0 → cost_of i s ≡ pos 0
cost_of-none i s e z = cost_of-greatest i s e ∙ by (costs_list i s) (costs_list-length i s ∙ z)
  where
    by : (xs : List ℤ) → length xs ≡ 0 → greatest xs ≡ pos 0
    by [] h = refl
    by (x ∷ xs) h = absurd (omega arith)

-- ---- pointwise: what holds of all charges holds of the costs
pub greatest-pointwise : (i j : Instance) (s t : Schedule) (a b z : ℤ)
    → pos 0 ≤ℤ b → is_greatest i.class.crit ≡ true → is_greatest j.class.crit ≡ true → length i.jobs ≡ length j.jobs → 0 < length i.jobs →
    ((k : ℕ) → k < length i.jobs → ((a *ℤ charge_of i s k) +ℤ z) ≤ℤ (b *ℤ charge_of j t k)) → ((a *ℤ cost_of i s) +ℤ z) ≤ℤ (b *ℤ cost_of j t)
greatest-pointwise i j s t a b z nonneg e f same some h =
    let (k, l, r) = cost_of-reached i s e some in
    ≤ℤ_trans (subst (λ x. ((a *ℤ x) +ℤ z) ≤ℤ (b *ℤ charge_of j t k)) r (h k l)) (*ℤ-mono_nonneg b nonneg (cost_of-bound j t f k (omega (arith, same))))

pub sum-pointwise : (i j : Instance) (s t : Schedule) (a b : ℤ) → is_greatest i.class.crit ≡ false → is_greatest j.class.crit ≡ false → length i.jobs ≡ length j.jobs →
    ((k : ℕ) → k < length i.jobs → (a *ℤ charge_of i s k) ≤ℤ (b *ℤ charge_of j t k)) → (a *ℤ cost_of i s) ≤ℤ (b *ℤ cost_of j t)
sum-pointwise i j s t a b e f same h =
    let n = length i.jobs in
    subst₂ (λ x y. x ≤ℤ y)
    (int_total_below-scale n a (charge_of i s) ∙ ap (λ x. a *ℤ x) (sym (cost_of-sum i s e)))
    (int_total_below-scale n b (charge_of j t) ∙ ap (λ x. b *ℤ x) (ap (λ m. int_total_below m (charge_of j t)) same ∙ sym (cost_of-sum j t f)))
    (int_total_below-mono n (λ k. a *ℤ charge_of i s k) (λ k. b *ℤ charge_of j t k) h)

-- both kinds of criteria together
pub cost-pointwise : (i j : Instance) (s t : Schedule) (a b : ℤ) → pos 0 ≤ℤ b → is_greatest i.class.crit ≡ is_greatest j.class.crit → length i.jobs ≡ length j.jobs →
    ((k : ℕ) → k < length i.jobs → (a *ℤ charge_of i s k) ≤ℤ (b *ℤ charge_of j t k)) → (a *ℤ cost_of i s) ≤ℤ (b *ℤ cost_of j t)
cost-pointwise i j s t a b nonneg join same h = by (is_greatest i.class.crit) refl (ltb 0 (length i.jobs)) refl
  where
    by : (g : Bool) → is_greatest i.class.crit ≡ g → (some : Bool) → ltb 0 (length i.jobs) ≡ some → (a *ℤ cost_of i s) ≤ℤ (b *ℤ cost_of j t)
    by false e c l = sum-pointwise i j s t a b e (sym join ∙ e) same h
    by true e true l =
        subst (λ x. x ≤ℤ (b *ℤ cost_of j t)) (+ℤ_idr (a *ℤ cost_of i s))
        (greatest-pointwise i j s t a b (pos 0) nonneg e (sym join ∙ e) same (ltb-true 0 (length i.jobs) l)
        (λ k m. subst (λ x. x ≤ℤ (b *ℤ charge_of j t k)) (sym (+ℤ_idr (a *ℤ charge_of i s k))) (h k m)))
    by true e false l =
        let none : length i.jobs ≡ 0 = omega (arith, ltb-false 0 (length i.jobs) l) in
        ≤ℤ_of_same (ap (λ x. a *ℤ x) (cost_of-none i s e none) ∙ *ℤ-zero a ∙ sym (*ℤ-zero b) ∙ ap (λ x. b *ℤ x) (sym (cost_of-none j t (sym join ∙ e) (sym same ∙ none))))

-- at most, and the same
pub cost-below : (i j : Instance) (s t : Schedule) → is_greatest i.class.crit ≡ is_greatest j.class.crit → length i.jobs ≡ length j.jobs →
    ((k : ℕ) → k < length i.jobs → charge_of i s k ≤ℤ charge_of j t k) → cost_of i s ≤ℤ cost_of j t
cost-below i j s t join same h =
    subst₂ (λ x y. x ≤ℤ y) (one-*ℤ (cost_of i s)) (one-*ℤ (cost_of j t))
    (cost-pointwise i j s t (pos 1) (pos 1) (omega (arith, ints)) join same (λ k l. subst₂ (λ x y. x ≤ℤ y) (sym (one-*ℤ (charge_of i s k))) (sym (one-*ℤ (charge_of j t k))) (h k l)))

pub cost-multiple : (i j : Instance) (s t : Schedule) (a b : ℤ) → pos 0 ≤ℤ a → pos 0 ≤ℤ b → is_greatest i.class.crit ≡ is_greatest j.class.crit → length i.jobs ≡ length j.jobs →
    ((k : ℕ) → k < length i.jobs → a *ℤ charge_of i s k ≡ b *ℤ charge_of j t k) → a *ℤ cost_of i s ≡ b *ℤ cost_of j t
cost-multiple i j s t a b p q join same h =
    ≤ℤ_antisym (cost-pointwise i j s t a b q join same (λ k l. ≤ℤ_of_same (h k l)))
    (cost-pointwise j i t s b a p (sym join) (sym same) (λ k l. ≤ℤ_of_same (sym (h k (omega (arith, same))))))

pub cost-same : (i j : Instance) (s t : Schedule) → is_greatest i.class.crit ≡ is_greatest j.class.crit → length i.jobs ≡ length j.jobs →
    ((k : ℕ) → k < length i.jobs → charge_of i s k ≡ charge_of j t k) → cost_of i s ≡ cost_of j t
cost-same i j s t join same h =
    ≤ℤ_antisym (cost-below i j s t join same (λ k l. ≤ℤ_of_same (h k l)))
    (cost-below j i t s (sym join) (sym same) (λ k l. ≤ℤ_of_same (sym (h k (omega (arith, same))))))

-- ---- two uses
-- later ends cost no less
pub cost-by_ends : (i : Instance) (s t : Schedule) → s.unit ≡ t.unit → pos 0 ≤ℤ s.unit → ((k : ℕ) → k < length i.jobs → end_of s k ≤ℤ end_of t k) → cost_of i s ≤ℤ cost_of i t
cost-by_ends i s t e u h = cost-below i i s t refl refl
    (λ k l. ≤ℤ_trans (job_cost-mono i.class.crit s.unit (job_at i k) (end_of s k) (end_of t k) u (h k l)) (≤ℤ_of_same (ap (λ v. job_cost i.class.crit v (job_at i k) (end_of t k)) e)))

-- two instances whose jobs have the same charges, over any unit and at any end
pub record SameCharges (i j : Instance) : Type 0 where
  pub count : length i.jobs ≡ length j.jobs
  pub join : is_greatest i.class.crit ≡ is_greatest j.class.crit
  pub charge : (k : ℕ) → k < length i.jobs → (unit x : ℤ) → pos 1 ≤ℤ unit → pos 0 ≤ℤ x → job_cost i.class.crit unit (job_at i k) x ≡ job_cost j.class.crit unit (job_at j k) x

-- schedules over one unit whose jobs end together cost the same, and one schedule too
pub cost-same_ends : (i j : Instance) (s t : Schedule) → SameCharges i j → s.unit ≡ t.unit → pos 1 ≤ℤ s.unit → ((k : ℕ) → k < length i.jobs → end_of s k ≡ end_of t k) → cost_of i s ≡ cost_of j t
cost-same_ends i j s t h e u ends =
    cost-same i j s t h.join h.count (λ k l. h.charge k l s.unit (end_of s k) u (last_end-natural s.pieces k) ∙ ap₂ (λ v x. job_cost j.class.crit v (job_at j k) x) e (ends k l))

pub cost-same_charges : (i j : Instance) (s : Schedule) → SameCharges i j → pos 1 ≤ℤ s.unit → cost_of i s ≡ cost_of j s
cost-same_charges i j s h u = cost-same_ends i j s s h refl u (λ k l. refl)

pub SameCharges-from_jobs : (i j : Instance) → i.class.crit ≡ j.class.crit → length i.jobs ≡ length j.jobs →
    ((k : ℕ) → k < length i.jobs → ((job_at i k).due ≡ (job_at j k).due) × ((job_at i k).weight ≡ (job_at j k).weight) × ((job_at i k).curve ≡ (job_at j k).curve)) → SameCharges i j
SameCharges-from_jobs i j e same h = record {
  count = same;
  join = ap is_greatest e;
  charge = λ k l unit x u p. let g = h k l in ap (λ c. job_cost c unit (job_at i k) x) e ∙ job_cost-reads j.class.crit unit (job_at i k) (job_at j k) x g.0 g.1 g.2;
}

-- where only the class changes, and where each job is changed by itself
pub SameCharges-from_class : (i : Instance) (c : Class) → i.class.crit ≡ c.crit → SameCharges i (record i { class = c })
SameCharges-from_class i c e = SameCharges-from_jobs i (record i { class = c }) e refl (λ k l. (refl, refl, refl))

pub SameCharges-from_map : (i j : Instance) (f : Job → Job) → j.jobs ≡ map f i.jobs → is_greatest i.class.crit ≡ is_greatest j.class.crit →
    ((a : Job) (unit x : ℤ) → pos 1 ≤ℤ unit → pos 0 ≤ℤ x → job_cost i.class.crit unit a x ≡ job_cost j.class.crit unit (f a) x) → SameCharges i j
SameCharges-from_map i j f e join h = record {
  count = sym (ap length e ∙ length-map i.jobs f);
  join = join;
  charge = λ k l unit x u p. h (job_at i k) unit x u p ∙ ap (λ a. job_cost j.class.crit unit a x) (sym (job_at-map i j f e k l));
}
