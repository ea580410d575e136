-- The first of the starts that leads to a wanted class, and the way from there.
use Rattle.std.proofs.Common.{◌≡◌, ◌≢◌, ℕ, suc, ◌<◌, ◌≤◌, ◌+◌, Bool, List, [], ◌∷◌, Option, Some, None, Result, Ok, Err, length, get_or, drop, refl, ap, sym, ◌∙◌, subst, inl, inr, arith, subst₂}
use Rattle.std.specs.Bool.{Decides}
use Rattle.std.specs.Prelude.{◌↔◌, Contains, IsNone, IfOk, nat_lt}
use Rattle.std.proofs.lemmas.Bool.{cases_eq, ltb-true, lt-ltb}
use Rattle.std.proofs.lemmas.List.{drop_more, get_or_default}
use Rattle.std.proofs.lemmas.List.Elements.{Contains-push, Contains-push_cases}
use Rattle.msp_class.specs.declared.class.Class.{Class}
use Rattle.msp_class.specs.declared.ranks.TheConstants.{CLASSES}
use Rattle.msp_table.specs.declared.row.Chain.{Chain}
use Rattle.msp_table.specs.Chains.{Reaches, IsNearest, stay}
use Rattle.msp_closure.specs.declared.distances.TheConstants.{FAR}
use Rattle.msp_closure.specs.Entries.{LeadsToOne, IsLedTo, HasWay, IsFirst, here, later, IsWay}
use Rattle.msp_closure.specs.Tables.{value_of, AreDistances}
use Rattle.msp_closure.proofs.LedLemmas.{starts_are_led}

-- the classes before a place are far, and the first near class from there on is the first
pub record FarSoFar (t : List ℕ) (starts : List Class) (n : ℕ) : Type 0 where
  pub first : (x : Class) → IsFirst (λ c. value_of t c ≢ FAR) (drop n starts) x → IsFirst (λ c. value_of t c ≢ FAR) starts x
  pub far : (k : ℕ) (d : Class) → k < n → value_of t (get_or starts k d) ≡ FAR

pub FarSoFar-more : (t : List ℕ) (starts : List Class) (n : ℕ) (e : Class) → n < length starts → value_of t (get_or starts n e) ≡ FAR
    → FarSoFar t starts n → FarSoFar t starts (n + 1)
FarSoFar-more t starts n e below is s = record {
  first = λ x f.
      let not_here : ¬ (value_of t (get_or starts n e) ≢ FAR) = λ near. near is in
      s.first x (subst (λ (xs : List Class). IsFirst (λ c. value_of t c ≢ FAR) xs x) (sym (drop_more starts n e below)) (later not_here f));
  far = λ k d early. elim (cases_eq k n) as (λ _. value_of t (get_or starts k d) ≡ FAR) [
    | inl same ↦ ap (value_of t) (ap (λ i. get_or starts i d) same ∙ get_or_default starts n d e below) ∙ is
    | inr apart ↦ s.far k d (omega arith)
  ];
}

pub FarSoFar-found : (t : List ℕ) (starts : List Class) (n : ℕ) (e : Class) → n < length starts → value_of t (get_or starts n e) ≢ FAR
    → FarSoFar t starts n → IsFirst (λ c. value_of t c ≢ FAR) starts (get_or starts n e)
FarSoFar-found t starts n e below near s =
    s.first (get_or starts n e) (subst (λ (xs : List Class). IsFirst (λ c. value_of t c ≢ FAR) xs (get_or starts n e)) (sym (drop_more starts n e below)) (here near))

-- the first with a property is the first with one that is equivalent in the list
IsFirst-same : {P Q : Class → Type 0} {xs : List Class} {x : Class} → ((c : Class) → Contains xs c → P c → Q c)
    → ((c : Class) → Contains xs c → Q c → P c) → IsFirst P xs x → IsFirst Q xs x
IsFirst-same to back (here p) = here (to _ (0, omega arith, refl) p)
IsFirst-same to back (later without f) =
    later (λ q. without (back _ (0, omega arith, refl) q))
    (IsFirst-same (λ c has. to c (suc has.0, omega (arith, has.1), has.2)) (λ c has. back c (suc has.0, omega (arith, has.1), has.2)) f)

pub IsFirst-has : {P : Class → Type 0} {xs : List Class} {x : Class} → IsFirst P xs x → P x
IsFirst-has (here p) = p
IsFirst-has (later without f) = IsFirst-has f

pub IsFirst-among : {P : Class → Type 0} {xs : List Class} {x : Class} → IsFirst P xs x → Contains xs x
IsFirst-among (here p) = (0, omega arith, refl)
IsFirst-among (later without f) = let h = IsFirst-among f in (suc h.0, omega (arith, h.1), h.2)

-- the near classes are those that lead to a wanted class
module _ (usable : ℕ → Bool) (starts wanted : List Class) (t : List ℕ) (are : AreDistances usable starts wanted t) where
  near_leads : (c : Class) → Contains starts c → value_of t c ≢ FAR → LeadsToOne usable wanted c
  near_leads c has near =
      let d = are.near c (starts_are_led usable starts c has) near in (d.leads.last, d.leads.is_wanted, (d.rows, d.leads.leads))

  leads_near : (c : Class) → Contains starts c → LeadsToOne usable wanted c → value_of t c ≢ FAR
  leads_near c has leads =
      are.all c leads.2.0 (starts_are_led usable starts c has) (record { last = leads.0; is_wanted = leads.1; leads = leads.2.1 })

  -- a value below FAR says that a chain leads from the start to a wanted class
  pub near_decides : (c : Class) → Contains starts c → Decides (nat_lt (value_of t c) FAR) (LeadsToOne usable wanted c)
  near_decides c has = (
    λ yes. near_leads c has (λ far. absurd (omega (arith, far, ltb-true (value_of t c) FAR yes))),
    λ leads. lt-ltb (value_of t c) FAR (omega (arith, are.few c (leads_near c has leads))),
  )

  pub no_way : ((c : Class) → Contains starts c → value_of t c ≡ FAR) → ¬ HasWay usable wanted starts
  no_way none = λ h. leads_near h.0 h.1 h.2 (none h.0 h.1)

-- the rows that the walk by distances takes
abbrev pub IsWalkedBy : (ℕ → Bool) → List ℕ → Class → List ℕ → Type 0
IsWalkedBy usable t x ks =
    (starts wanted : List Class) → AreDistances usable starts wanted t → IsLedTo usable starts x → value_of t x ≢ FAR → IsNearest usable wanted x ks

pub way_from : (usable : ℕ → Bool) (starts wanted : List Class) (t : List ℕ) (x : Class) (ks : List ℕ) → AreDistances usable starts wanted t
    → IsFirst (λ c. value_of t c ≢ FAR) starts x → IsWalkedBy usable t x ks
    → IsFirst (LeadsToOne usable wanted) starts x × IsNearest usable wanted x ks
way_from usable starts wanted t x ks are first nearest = (
  IsFirst-same (near_leads usable starts wanted t are) (leads_near usable starts wanted t are) first,
  nearest starts wanted are (starts_are_led usable starts x (IsFirst-among first)) (IsFirst-has first),
)

-- the way is no longer than there are classes
pub way_few : (usable : ℕ → Bool) (starts wanted : List Class) (t : List ℕ) (x : Class) (ks : List ℕ) → AreDistances usable starts wanted t
    → IsFirst (λ c. value_of t c ≢ FAR) starts x → IsWalkedBy usable t x ks → length ks ≤ CLASSES
way_few usable starts wanted t x ks are first nearest =
    let near = IsFirst-has first in
    let led : IsLedTo usable starts x = starts_are_led usable starts x (IsFirst-among first) in
    let away = are.near x led near in
    omega (arith, (nearest starts wanted are led near).shortest away.rows away.leads, away.length_is, are.few x near)

-- there is no way exactly where no start leads to a wanted class
none_exactly : {E : Type 0} (P : Type 0) (usable : ℕ → Bool) (wanted starts : List Class) (r : Result (Option Chain) E)
    → (P → HasWay usable wanted starts) → (HasWay usable wanted starts → P) → IfOk r (λ found. IsWay usable wanted starts found)
    → IfOk r (λ found. IsNone found ↔ (¬ P))
none_exactly P usable wanted starts (Err e) to back way = tt
none_exactly P usable wanted starts (Ok None) to back way = (λ _ p. way (to p), λ _. refl)
none_exactly P usable wanted starts (Ok (Some chain)) to back way =
    (λ is. cc, λ not. absurd (not (back (chain.from, IsFirst-among way.0, IsFirst-has way.0))))

pub one_is : {c b : Class} → Contains (c ∷ []) b → c ≡ b
one_is {c} {b} has = elim (Contains-push_cases [] c b has) as (λ _. c ≡ b) [ inl none ↦ absurd (omega (arith, none.1)) | inr is ↦ is ]

-- from one start
pub none_from : {E : Type 0} (usable : ℕ → Bool) (wanted listed starts : List Class) (c : Class) (r : Result (Option Chain) E) → wanted ≡ listed
    → starts ≡ c ∷ [] → IfOk r (λ found. IsWay usable wanted starts found) → IfOk r (λ found. IsNone found ↔ (¬ LeadsToOne usable listed c))
none_from usable wanted listed starts c r is one way =
    none_exactly (LeadsToOne usable listed c) usable listed (c ∷ []) r (λ leads. (c, Contains-push [] c, leads))
    (λ h. let Q : Class → Type 0 = LeadsToOne usable listed in subst Q (sym (one_is h.1)) h.2)
    (subst₂ (λ (xs ys : List Class). IfOk r (λ found. IsWay usable xs ys found)) is one way)

-- to one wanted class
pub none_to : {E : Type 0} (usable : ℕ → Bool) (starts listed : List Class) (c : Class) (r : Result (Option Chain) E) → starts ≡ listed
    → IfOk r (λ found. IsWay usable (c ∷ []) starts found) → IfOk r (λ found. IsNone found ↔ (¬ IsLedTo usable listed c))
none_to usable starts listed c r is way =
    none_exactly (IsLedTo usable listed c) usable (c ∷ []) listed r (λ led. (led.0, led.1, (c, Contains-push [] c, led.2)))
    (λ h. let Q : Class → Type 0 = Reaches usable h.0 in (h.0, h.1, subst Q (sym (one_is h.2.1)) h.2.2))
    (subst (λ (xs : List Class). IfOk r (λ found. IsWay usable (c ∷ []) xs found)) is way)

-- both
pub none_between : {E : Type 0} (usable : ℕ → Bool) (a b : Class) (r : Result (Option Chain) E) → IfOk r (λ found. IsWay usable (b ∷ []) (a ∷ []) found)
    → IfOk r (λ found. IsNone found ↔ (¬ Reaches usable a b))
none_between usable a b r = none_exactly (Reaches usable a b) usable (b ∷ []) (a ∷ []) r
    (λ reaches. (a, Contains-push [] a, (b, Contains-push [] b, reaches)))
    (λ h.
    subst (λ (x : Class). Reaches usable x b) (sym (one_is h.1)) (subst (Reaches usable h.0) (sym (one_is h.2.1)) h.2.2))

-- from a class to itself no row is the nearest chain
pub no_rows_is_way : (usable : ℕ → Bool) (a : Class) → IsWay usable (a ∷ []) (a ∷ []) (Some (record { from = a; rows = [] }))
no_rows_is_way usable a = (
  here (a, Contains-push [] a, ([], stay)),
  record {
    leads = record { last = a; is_wanted = Contains-push [] a; leads = stay };
    shortest = λ js into. omega arith;
    least_rows = tt;
  },
)

-- neither
pub none_any : {E : Type 0} (usable : ℕ → Bool) (wanted starts goals firsts : List Class) (r : Result (Option Chain) E) → wanted ≡ goals → starts ≡ firsts
    → IfOk r (λ found. IsWay usable wanted starts found) → IfOk r (λ found. IsNone found ↔ (¬ HasWay usable goals firsts))
none_any usable wanted starts goals firsts r is are way =
    none_exactly (HasWay usable goals firsts) usable goals firsts r (λ h. h) (λ h. h)
    (subst₂ (λ (xs ys : List Class). IfOk r (λ found. IsWay usable xs ys found)) is are way)
