-- Whether a condition holds can be told, for the conditions of a class that a text can break.
use Rattle.std.proofs.Common.{◌≡◌, ◌≢◌, ℕ, zero, suc, ◌+◌, ◌-◌, ◌*◌, ◌/◌, ◌%◌, ◌<◌, ◌≤◌, ◌⊎◌, inl, inr, ◌==◌, true, false, Bool}
use Rattle.std.proofs.Common.{List, [], ◌∷◌, length, get_or, All, Any, refl, sym, ap, ◌∙◌, subst, arith}
use Rattle.std.specs.List.{AllAdjacentBelow, list_all}
use Rattle.std.proofs.Math.Nat.{div-add-mod, mul-mod_left}
use Rattle.std.proofs.lemmas.Bool.{cases_Bool, cases_lt, eqb-true, eqb-false, eq-eqb, and_parts, and_from, or_cases, or_left, or_right}
use Rattle.std.proofs.lemmas.List.{get_or_default}
use Rattle.std.proofs.lemmas.List.Elements.{All-nil, All-cons, All-head, All-tail}
use Rattle.msp_class.specs.Env.{kind_of, most_operations}
use Rattle.msp_class.specs.declared.class.Env.{Env}
use Rattle.msp_class.specs.declared.class.Order.{Order}
use Rattle.msp_class.specs.declared.class.Order.TheVariants.{Free, Chains, Intree, Outtree, Prec}
use Rattle.msp_class.specs.declared.environments.EnvKind.{EnvKind}
use Rattle.msp_class.specs.declared.environments.EnvKind.TheVariants.{Identical, Uniform, Unrelated, OpenShop, FlowShop, JobShop}
use Rattle.msp_instance.specs.declared.Arc.{Arc}
use Rattle.msp_instance.specs.declared.Need.{Need}
use Rattle.msp_instance.specs.declared.Instance.{Instance}
use Rattle.msp_class.specs.declared.sizes.TheConstants.{GREATEST_MULTIPLE}
use Rattle.msp_instance.specs.Instance.{no_need}
use Rattle.msp_file.specs.instance.Reading.{has_multiple}
use Rattle.msp_instance.specs.Conditions.{Limits, HasSmallMultiple, IsSingleNeed, IsNeedPerMachine, IsRoute, HasShape, HasTimes, least_time, greatest_time, HasNeeds, leaving, entering, HasDegree}

-- The condition holds, or it does not.
abbrev pub Told : Type 0 → Type 0
Told P = P ⊎ (¬ P)

pub both : {P Q : Type 0} → Told P → Told Q → Told (P × Q)
both (inl p) (inl q) = inl (p, q)
both (inl p) (inr n) = inr (λ h. n h.1)
both (inr n) q = inr (λ h. n h.0)

pub unless : {P : Type 0} → Told P → Told (¬ P)
unless (inl p) = inr (λ n. n p)
unless (inr n) = inl n

pub le_told : (m n : ℕ) → Told (m ≤ n)
le_told m n = elim (cases_lt n m) [ inl h ↦ inr (λ k. absurd (omega arith)) | inr h ↦ inl h ]

pub equal_told : (m n : ℕ) → Told (m ≡ n)
equal_told m n = elim (cases_Bool (m == n)) [ inl e ↦ inl (eqb-true m n e) | inr e ↦ inr (eqb-false m n e) ]

pub true_told : (b : Bool) → Told (b ≡ true)
true_told true = inl refl
true_told false = inr (λ e. absurd cc)

pub false_told : (b : Bool) → Told (b ≡ false)
false_told true = inr (λ e. absurd cc)
false_told false = inl refl

module _ (P : ℕ → Type 0) (told : (k : ℕ) → Told (P k)) where
  -- the first number below n for which the condition fails, or it holds for all
  pub first_broken : (n : ℕ) → ((j : ℕ) × (j < n) × (¬ P j) × ((k : ℕ) → k < j → P k)) ⊎ ((k : ℕ) → k < n → P k)
  first_broken zero = inr (λ k h. absurd (omega arith))
  first_broken (suc n) = elim (first_broken n) [
    | inl f ↦ let less = f.1 in inl (f.0, omega arith, f.2, f.3)
    | inr all ↦ elim (told n) [
      | inl p ↦ inr (λ k h. elim (cases_lt k n) [ inl below ↦ all k below | inr past ↦ subst P (omega arith) p ])
      | inr absent ↦ inl (n, omega arith, absent, all)
    ]
  ]

  pub each_told : (n : ℕ) → Told ((k : ℕ) → k < n → P k)
  each_told n = elim (first_broken n) [ inl f ↦ inr (λ h. f.2 (h f.0 f.1)) | inr all ↦ inl all ]

module _ (P : ℕ → Type 0) (told : (k : ℕ) → Told (P k)) where
  -- some number below n for which the condition holds
  pub some_below : (n : ℕ) → ((k : ℕ) × (k < n) × P k) ⊎ ((k : ℕ) → k < n → ¬ P k)
  some_below n = elim (first_broken (λ k. ¬ P k) (λ k. unless (told k)) n) [
    | inl f ↦ elim (told f.0) [ inl p ↦ inl (f.0, f.1, p) | inr absent ↦ absurd (f.2 absent) ]
    | inr none ↦ inr none
  ]

pub all_told : {X : Type 0} (P : X → Type 0) → ((x : X) → Told (P x)) → (xs : List X) → Told (All P xs)
all_told P told [] = inl (All-nil P)
all_told P told (x ∷ xs) = elim (told x) [
  | inl p ↦ elim (all_told P told xs) [ inl h ↦ inl (All-cons P x xs p h) | inr absent ↦ inr (λ h. absent (All-tail P x xs h)) ]
  | inr absent ↦ inr (λ h. absent (All-head P x xs h))
]

-- ---- speeds

abbrev AreDivisors : List ℕ → ℕ → Type 0
AreDivisors speeds multiple = All (λ s. (times : ℕ) × (multiple ≡ times * s)) speeds

divided : (m : ℕ) (speeds : List ℕ) → list_all (λ s. m % s == 0) speeds ≡ true → AreDivisors speeds m
divided m [] e = All-nil _
divided m (s ∷ ss) e =
    let both = and_parts (m % s == 0) (list_all (λ s. m % s == 0) ss) e in
    All-cons (λ s. (times : ℕ) × (m ≡ times * s)) s ss (m / s, omega (arith, div-add-mod m s, eqb-true (m % s) 0 both.0)) (divided m ss both.1)

dividing : (m : ℕ) (speeds : List ℕ) → AreDivisors speeds m → list_all (λ s. m % s == 0) speeds ≡ true
dividing m [] h = refl
dividing m (s ∷ ss) h =
    let here = All-head (λ s. (times : ℕ) × (m ≡ times * s)) s ss h in
    and_from _ _ (eq-eqb (m % s) 0 (ap (λ n. n % s) here.1 ∙ mul-mod_left here.0 s)) (dividing m ss (All-tail (λ s. (times : ℕ) × (m ≡ times * s)) s ss h))

multiple_found : (n : ℕ) (speeds : List ℕ) → has_multiple n speeds ≡ true → (m : ℕ) × (1 ≤ m) × (m ≤ n) × AreDivisors speeds m
unfolding has_multiple
multiple_found zero speeds e = absurd cc
multiple_found (suc n) speeds e = elim (or_cases (list_all (λ s. suc n % s == 0) speeds) (has_multiple n speeds) e) [
  | inl here ↦ (suc n, omega arith, omega arith, divided (suc n) speeds here)
  | inr before ↦ let f = multiple_found n speeds before in let less = f.2 in (f.0, f.1, omega arith, f.3)
]

multiple_there : (n m : ℕ) (speeds : List ℕ) → 1 ≤ m → m ≤ n → AreDivisors speeds m → has_multiple n speeds ≡ true
unfolding has_multiple
multiple_there zero m speeds some few h = absurd (omega arith)
multiple_there (suc n) m speeds some few h = elim (cases_lt m (suc n)) [
  | inl less ↦ or_right _ _ (multiple_there n m speeds some (omega arith) h)
  | inr past ↦ or_left _ _ (dividing (suc n) speeds (subst (AreDivisors speeds) (omega arith) h))
]

pub small_found : (speeds : List ℕ) → has_multiple GREATEST_MULTIPLE speeds ≡ true → HasSmallMultiple speeds
small_found speeds e = multiple_found GREATEST_MULTIPLE speeds e

pub small_there : (speeds : List ℕ) → HasSmallMultiple speeds → has_multiple GREATEST_MULTIPLE speeds ≡ true
small_there speeds h = multiple_there GREATEST_MULTIPLE h.0 speeds h.1 h.2 h.3

pub small_none : (speeds : List ℕ) → ¬ HasSmallMultiple speeds → has_multiple GREATEST_MULTIPLE speeds ≡ false
small_none speeds none = elim (cases_Bool (has_multiple GREATEST_MULTIPLE speeds)) [ inl e ↦ absurd (none (small_found speeds e)) | inr e ↦ e ]

-- ---- the needs of a job

abbrev need_at : List Need → ℕ → Need
need_at needs k = get_or needs k no_need

moves_told : (needs : List Need) → Told (AllAdjacentBelow (λ a b. a.machine ≢ b.machine) needs (length needs))
moves_told needs = elim (each_told (λ k. (need_at needs k).machine ≢ (need_at needs (k + 1)).machine) (λ k. unless (equal_told _ _)) (length needs - 1)) [
  | inl h ↦ inl (λ k d less.
      subst (λ (a : Need). a.machine ≢ (get_or needs (k + 1) d).machine) (get_or_default needs k no_need d (omega arith))
      (subst (λ (b : Need). (need_at needs k).machine ≢ b.machine) (get_or_default needs (k + 1) no_need d less) (h k (omega arith))))
  | inr absent ↦ inr (λ h. absent (λ k less. h k no_need (omega arith)))
]

route_told : (most m : ℕ) (needs : List Need) → Told (IsRoute most m needs)
route_told most m needs = elim (both (le_told 1 (length needs)) (both (le_told (length needs) most) (both (all_told (λ n. n.machine < m) (λ n. le_told _ m) needs) (moves_told needs)))) [
  | inl h ↦ inl (record { some = h.0; few = h.1.0; machines = h.1.1.0; moves = h.1.1.1 })
  | inr absent ↦ inr (λ h. absent (h.some, (h.few, (h.machines, h.moves))))
]

single_told : (needs : List Need) → Told (IsSingleNeed needs)
single_told needs = both (equal_told (length needs) 1) (all_told (λ n. n.machine ≡ 0) (λ n. equal_told n.machine 0) needs)

per_machine_told : (m : ℕ) (needs : List Need) → Told (IsNeedPerMachine m needs)
per_machine_told m needs = both (equal_told (length needs) m) (each_told (λ k. (need_at needs k).machine ≡ k) (λ k. equal_told _ k) (length needs))

shape_told : (k : EnvKind) (e : Env) (m : ℕ) (needs : List Need) → Told (HasShape k e m needs)
shape_told Identical e m needs = single_told needs
shape_told Uniform e m needs = single_told needs
shape_told Unrelated e m needs = per_machine_told m needs
shape_told OpenShop e m needs = per_machine_told m needs
shape_told FlowShop e m needs = per_machine_told m needs
shape_told JobShop e m needs = route_told (most_operations e) m needs

times_told : (least greatest : ℕ) (needs : List Need) → Told (HasTimes least greatest needs)
times_told least greatest needs = all_told (λ n. (least ≤ n.time) × (n.time ≤ greatest)) (λ n. both (le_told least n.time) (le_told n.time greatest)) needs

some_told : (needs : List Need) → Told (Any (λ n. 1 ≤ n.time) needs)
some_told needs = elim (some_below (λ k. 1 ≤ (need_at needs k).time) (λ k. le_told 1 _) (length needs)) [
  | inl f ↦ inl (f.0, need_at needs f.0, f.1, get_or_default needs f.0 (need_at needs f.0) no_need f.1, f.2)
  | inr none ↦ inr (λ h. none h.0 h.2 (subst (λ (n : Need). 1 ≤ n.time) (sym (get_or_default needs h.0 no_need h.1 h.2 ∙ h.3)) h.4))
]

pub needs_told : (l : Limits) (i : Instance) (needs : List Need) → Told (HasNeeds l i needs)
needs_told l i needs = elim (both (shape_told (kind_of i.class.env) i.class.env i.machines needs)
    (both (times_told (least_time (kind_of i.class.env) i.class.times) (greatest_time l i.class.times) needs) (some_told needs))) [
      | inl h ↦ inl (record { shape = h.0; times = h.1.0; some = h.1.1 })
      | inr absent ↦ inr (λ h. absent (h.shape, (h.times, h.some)))
    ]

-- ---- the arcs at a job

pub degree_told : (o : Order) (arcs : List Arc) (j : ℕ) → Told (HasDegree o arcs j)
degree_told Free arcs j = inl tt
degree_told Chains arcs j = both (le_told (leaving arcs j) 1) (le_told (entering arcs j) 1)
degree_told Intree arcs j = le_told (leaving arcs j) 1
degree_told Outtree arcs j = le_told (entering arcs j) 1
degree_told Prec arcs j = inl tt
