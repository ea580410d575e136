-- Laws of chains: joined, taken apart, and determined by their rows.
use Rattle.std.proofs.Common.{◌≡◌, ℕ, Bool, List, [], ◌∷◌, ◌++◌, Some, refl, sym, subst, ◌∙◌}
use Rattle.std.specs.Prelude.{Contains, IsTrue}
use Rattle.msp_class.specs.declared.class.Class.{Class}
use Rattle.msp_table.specs.Rows.{goes_of}
use Rattle.msp_table.specs.Chains.{Leads, stay, step, LeadsInto}

-- a class is the one that it is given as
pub some_one : {x y : Class} → Some x ≡ Some y → x ≡ y
some_one e = cc

-- chains one after the other
pub Leads-append : {usable : ℕ → Bool} {a b c : Class} {ks js : List ℕ} → Leads usable a ks b → Leads usable b js c → Leads usable a (ks ++ js) c
Leads-append stay after = after
Leads-append (step u goes before) after = step u goes (Leads-append before after)

-- a row before a chain
pub LeadsInto-step : {usable : ℕ → Bool} {wanted : List Class} {a c : Class} {k : ℕ} {ks : List ℕ}
    → IsTrue (usable k) → goes_of k a ≡ Some c → LeadsInto usable wanted c ks → LeadsInto usable wanted a (k ∷ ks)
LeadsInto-step u goes after = record { last = after.last; is_wanted = after.is_wanted; leads = step u goes after.leads }

Leads-none : {usable : ℕ → Bool} {a b : Class} → Leads usable a [] b → a ≡ b
Leads-none stay = refl

-- the chain without rows leads into the wanted classes from each of them
pub LeadsInto-none : {usable : ℕ → Bool} {wanted : List Class} {a : Class} → LeadsInto usable wanted a [] → Contains wanted a
LeadsInto-none {usable} {wanted} {a} h = let P : Class → Type 0 = Contains wanted in subst P (sym (Leads-none h.leads)) h.is_wanted

-- a chain with rows, taken apart at its first row
pub record FirstLead (usable : ℕ → Bool) (a : Class) (k : ℕ) (ks : List ℕ) (b : Class) : Type 0 where
  pub next : Class
  pub is_usable : IsTrue (usable k)
  pub goes : goes_of k a ≡ Some next
  pub rest : Leads usable next ks b

pub Leads-first : {usable : ℕ → Bool} {a b : Class} {k : ℕ} {ks : List ℕ} → Leads usable a (k ∷ ks) b → FirstLead usable a k ks b
Leads-first (step u goes after) = record { next = _; is_usable = u; goes = goes; rest = after }

pub record FirstRow (usable : ℕ → Bool) (wanted : List Class) (a : Class) (k : ℕ) (ks : List ℕ) : Type 0 where
  pub next : Class
  pub is_usable : IsTrue (usable k)
  pub goes : goes_of k a ≡ Some next
  pub rest : LeadsInto usable wanted next ks

pub LeadsInto-first : {usable : ℕ → Bool} {wanted : List Class} {a : Class} {k : ℕ} {ks : List ℕ}
    → LeadsInto usable wanted a (k ∷ ks) → FirstRow usable wanted a k ks
LeadsInto-first h =
    let first = Leads-first h.leads in
    record {
      next = first.next;
      is_usable = first.is_usable;
      goes = first.goes;
      rest = record { last = h.last; is_wanted = h.is_wanted; leads = first.rest };
    }

-- the rows of a chain determine where it leads
pub Leads-one : {usable : ℕ → Bool} (a b c : Class) (ks : List ℕ) → Leads usable a ks b → Leads usable a ks c → b ≡ c
Leads-one a b c [] before after = sym (Leads-none before) ∙ Leads-none after
Leads-one {usable} a b c (k ∷ ks) before after =
    let first = Leads-first before in
    let second = Leads-first after in
    let same : second.next ≡ first.next = some_one (sym second.goes ∙ first.goes) in
    Leads-one first.next b c ks first.rest (subst (λ (x : Class). Leads usable x ks c) same second.rest)

-- more rows may be used
pub Leads-weaken : {usable other : ℕ → Bool} {a b : Class} {ks : List ℕ} → ((k : ℕ) → IsTrue (usable k) → IsTrue (other k))
    → Leads usable a ks b → Leads other a ks b
Leads-weaken more stay = stay
Leads-weaken more (step u goes after) = step (more _ u) goes (Leads-weaken more after)
