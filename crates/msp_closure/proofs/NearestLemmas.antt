-- A walk by distances is the nearest chain.
use Rattle.std.proofs.Common.{◌≡◌, ◌≢◌, ℕ, ◌<◌, ◌≤◌, ◌+◌, ◌-◌, Bool, List, [], ◌∷◌, ◌++◌, length, Some, sym, ◌∙◌, subst, append_assoc, arith}
use Rattle.std.proofs.lemmas.List.{append-nil}
use Rattle.std.specs.Prelude.{IfSome}
use Rattle.msp_class.specs.declared.class.Class.{Class}
use Rattle.msp_table.specs.Rows.{goes_of}
use Rattle.msp_table.specs.Chains.{LeadsInto, IsDistance, LeadsAtDistance, TakesLeastRows, IsNearest}
use Rattle.msp_table.proofs.ChainLemmas.{LeadsInto-step, LeadsInto-first}
use Rattle.msp_closure.specs.declared.distances.TheConstants.{FAR}
use Rattle.msp_closure.specs.Entries.{IsLedTo}
use Rattle.msp_closure.specs.Tables.{value_of, AreDistances}
use Rattle.msp_closure.specs.Walk.{step_of, LeadsToValue}
use Rattle.msp_closure.proofs.LedLemmas.{led_on}
use Rattle.msp_closure.proofs.StepLemmas.{step_of-parts, step_of-from}

-- a class has one distance
pub IsDistance-one : {usable : ℕ → Bool} {wanted : List Class} {a : Class} {n m : ℕ}
    → IsDistance usable wanted a n → IsDistance usable wanted a m → n ≡ m
IsDistance-one d e = omega (arith, d.least e.rows e.leads, e.least d.rows d.leads, d.length_is, e.length_is)

module _ (usable : ℕ → Bool) (starts wanted : List Class) (t : List ℕ) (are : AreDistances usable starts wanted t) where
  -- a class at a distance has it as its value
  value_at : (c : Class) (n : ℕ) → IsLedTo usable starts c → IsDistance usable wanted c n → value_of t c ≡ n
  value_at c n led d = IsDistance-one (are.near c led (are.all c d.rows led d.leads)) d

  nearest_length : (c : Class) (ks : List ℕ) → IsLedTo usable starts c → value_of t c ≢ FAR → IsNearest usable wanted c ks → length ks ≡ value_of t c
  nearest_length c ks led near n =
      let d = are.near c led near in
      omega (arith, n.shortest d.rows d.leads, d.least ks n.leads, d.length_is)

  -- a least row before a nearest chain
  pub IsNearest-step : (a c : Class) (k : ℕ) (ks : List ℕ) → IsLedTo usable starts a → value_of t a ≢ FAR → value_of t c ≢ FAR → step_of usable k a ≡ Some c
      → value_of t c + 1 ≡ value_of t a → ((j : ℕ) → j < k → ¬ LeadsToValue usable t a (value_of t c) j)
      → IsNearest usable wanted c ks → IsNearest usable wanted a (k ∷ ks)
  IsNearest-step a c k ks led near_a near_c steps nearer least n =
      let parts = step_of-parts usable k a c steps in
      let led_c : IsLedTo usable starts c = led_on usable starts a c k led steps in
      let long : length ks ≡ value_of t c = nearest_length c ks led_c near_c n in
      let at = subst (IsDistance usable wanted c) (sym long) (are.near c led_c near_c) in
      let others : (j : ℕ) → j < k → ¬ LeadsAtDistance usable wanted a (length ks) j =
      λ j below leads.
      let goes = step_of-from usable j a leads.1.0 leads.0 leads.1.1 in
      least j below (leads.1.0, goes, value_at leads.1.0 (length ks) (led_on usable starts a leads.1.0 j led goes) leads.1.2 ∙ long) in
      let rest : IfSome (goes_of k a) (λ x. TakesLeastRows usable wanted x ks) = rw parts.1 n.least_rows in
      record {
        leads = LeadsInto-step parts.0 parts.1 n.leads;
        shortest = λ js into. omega (arith, (are.near a led near_a).least js into);
        least_rows = ((parts.0, (c, parts.1, at)), others, rest);
      }

  at_end : (a : Class) (ks : List ℕ) → IsLedTo usable starts a → length ks ≡ value_of t a → LeadsInto usable wanted a ks
      → ((js : List ℕ) → LeadsInto usable wanted a js → value_of t a ≤ length js)
      → (0 < value_of t a → (k : ℕ) → ¬ LeadsToValue usable t a (value_of t a - 1) k) → IsNearest usable wanted a []
  at_end a [] led long into least none = record { leads = into; shortest = λ js other. omega arith; least_rows = tt }
  at_end a (k ∷ ks) led long into least none =
      let first = LeadsInto-first into in
      let goes = step_of-from usable k a first.next first.is_usable first.goes in
      let next_led : IsLedTo usable starts first.next = led_on usable starts a first.next k led goes in
      let d = are.near first.next next_led (are.all first.next ks next_led first.rest) in
      let back : LeadsInto usable wanted a (k ∷ d.rows) = LeadsInto-step first.is_usable first.goes d.leads in
      let value : value_of t first.next ≡ value_of t a - 1 = omega (arith, d.least ks first.rest, least (k ∷ d.rows) back, d.length_is) in
      absurd (none (omega arith) k (first.next, goes, value))

  -- the chain ends where no row leads nearer
  pub IsNearest-end : (a : Class) → IsLedTo usable starts a → value_of t a ≢ FAR → (0 < value_of t a → (k : ℕ) → ¬ LeadsToValue usable t a (value_of t a - 1) k)
      → IsNearest usable wanted a []
  IsNearest-end a led near none = let d = are.near a led near in at_end a d.rows led d.length_is d.leads d.least none

-- the rows lead from the start to this class, and a nearest chain from here makes a nearest chain from there
abbrev pub IsWalked : (ℕ → Bool) → List ℕ → Class → Class → List ℕ → Type 0
IsWalked usable t from here rows =
    (starts wanted : List Class) → AreDistances usable starts wanted t → IsLedTo usable starts from → value_of t from ≢ FAR
    → IsLedTo usable starts here × (value_of t here ≢ FAR) × ((ks : List ℕ) → IsNearest usable wanted here ks → IsNearest usable wanted from (rows ++ ks))

pub IsWalked-next : (usable : ℕ → Bool) (t : List ℕ) (from here next : Class) (rows : List ℕ) (k : ℕ)
    → step_of usable k here ≡ Some next → value_of t next ≢ FAR → value_of t next + 1 ≡ value_of t here
    → ((j : ℕ) → j < k → ¬ LeadsToValue usable t here (value_of t here - 1) j)
    → IsWalked usable t from here rows → IsWalked usable t from next (rows ++ k ∷ [])
IsWalked-next usable t from here next rows k steps near nearer least walked = λ starts wanted are led near_from.
    let before = walked starts wanted are led near_from in
    let value : value_of t here - 1 ≡ value_of t next = omega arith in
    let none = let P : ℕ → Type 0 = λ v. (j : ℕ) → j < k → ¬ LeadsToValue usable t here v j in subst P value least in (
      led_on usable starts here next k before.0 steps,
      near,
      λ ks n. rw append_assoc
          (before.2 (k ∷ ks) (IsNearest-step usable starts wanted t are here next k ks before.0 before.1 near steps nearer none n)),
    )

pub IsWalked-end : (usable : ℕ → Bool) (t : List ℕ) (from here : Class) (rows : List ℕ)
    → (0 < value_of t here → (k : ℕ) → ¬ LeadsToValue usable t here (value_of t here - 1) k) → IsWalked usable t from here rows
    → (starts wanted : List Class) → AreDistances usable starts wanted t → IsLedTo usable starts from → value_of t from ≢ FAR → IsNearest usable wanted from rows
IsWalked-end usable t from here rows none walked starts wanted are led near_from =
    let before = walked starts wanted are led near_from in
    subst (IsNearest usable wanted from) (append-nil rows) (before.2 [] (IsNearest-end usable starts wanted t are here before.0 before.1 none))
