-- The classes to which chains lead from the starts, and the list of all classes.
use Rattle.std.proofs.Common.{◌≡◌, ℕ, ◌<◌, ◌+◌, Bool, List, [], ◌∷◌, ◌++◌, Some, inl, inr, sym, ◌∙◌, subst}
use Rattle.std.specs.Prelude.{Contains}
use Rattle.std.proofs.lemmas.Bool.{cases_eq}
use Rattle.std.proofs.lemmas.List.Elements.{Contains-push, Contains-append_left}
use Rattle.msp_class.specs.declared.class.Class.{Class}
use Rattle.msp_class.specs.Rank.{rank_of}
use Rattle.msp_class.proofs.RankLemmas.{rank_of-injective}
use Rattle.msp_table.specs.Chains.{stay, step}
use Rattle.msp_table.proofs.ChainLemmas.{Leads-append}
use Rattle.msp_closure.specs.Entries.{IsLedTo}
use Rattle.msp_closure.specs.Walk.{step_of}
use Rattle.msp_closure.proofs.StepLemmas.{step_of-parts}
use Rattle.msp_closure.proofs.TableLemmas.{below_next}

-- each start is one of them
pub starts_are_led : (usable : ℕ → Bool) (starts : List Class) (c : Class) → Contains starts c → IsLedTo usable starts c
starts_are_led usable starts c has = (c, has, ([], stay))

-- so is each class to which a usable row leads from one of them
pub led_on : (usable : ℕ → Bool) (starts : List Class) (a x : Class) (k : ℕ) → IsLedTo usable starts a → step_of usable k a ≡ Some x → IsLedTo usable starts x
led_on usable starts a x k led is =
    let parts = step_of-parts usable k a x is in
    (led.0, led.1, (led.2.0 ++ k ∷ [], Leads-append led.2.1 (step parts.0 parts.1 stay)))

-- a list with the classes of the ranks below a number, and the class of that rank
pub every_more : (xs : List Class) (n : ℕ) (x : Class) → rank_of x ≡ n → ((c : Class) → rank_of c < n → Contains xs c)
    → (c : Class) → rank_of c < n + 1 → Contains (xs ++ x ∷ []) c
every_more xs n x at before c below = elim (cases_eq (rank_of c) n) as (λ _. Contains (xs ++ x ∷ []) c) [
  | inl same ↦
      let P : Class → Type 0 = Contains (xs ++ x ∷ []) in subst P (rank_of-injective x c (at ∙ sym same)) (Contains-push xs x)
  | inr apart ↦ Contains-append_left xs (x ∷ []) c (before c (below_next (rank_of c) n below apart))
]
