-- The rows that have the columns, row after row.
use Rattle.std.proofs.Common.{◌≡◌, ◌≢◌, ℕ, ◌+◌, ◌<◌, inl, inr, List, length, get_or, set, Option, None, Some, MatchOption, Contains, sym, ap, subst, ◌∙◌, arith, refl}
use Rattle.std.proofs.lemmas.List.{get_or-set_same, get_or-set_other, length-set}
use Rattle.msp_assign.specs.Passing.{at}
use Rattle.msp_class.proofs.Cases.{same_or_not}
use Rattle.msp_assign.specs.Search.{IsOwners}
use Rattle.msp_assign.proofs.Lists.{at-Contains}

-- of the rows before k
pub record IsOwnersBelow (columns k : ℕ) (column : List ℕ) (owner : List (Option ℕ)) : Type 0 where
  pub size : length owner ≡ columns
  pub each : (c : ℕ) → c < columns → MatchOption (get_or owner c None) ((r : ℕ) → r < k → at column r ≢ c) (λ r. (r < k) × (at column r ≡ c))

later : (k : ℕ) (column : List ℕ) (c : ℕ) (o : Option ℕ) → at column k ≢ c → MatchOption o ((r : ℕ) → r < k → at column r ≢ c) (λ r. (r < k) × (at column r ≡ c))
    → MatchOption o ((r : ℕ) → r < k + 1 → at column r ≢ c) (λ r. (r < k + 1) × (at column r ≡ c))
later k column c None ne h = λ r l. elim (same_or_not r k) [
  | inl e ↦ λ q. ne (ap (at column) (sym e) ∙ q)
  | inr n ↦ h r (omega arith)
]
later k column c (Some r) ne h = (omega (arith, h.0), h.1)

pub IsOwnersBelow-next : (columns k : ℕ) (column : List ℕ) (owner : List (Option ℕ))
    → IsOwnersBelow columns k column owner → at column k < columns → IsOwnersBelow columns (k + 1) column (set owner (at column k) (Some k))
IsOwnersBelow-next columns k column owner h l = record {
  size = length-set owner (at column k) (Some k) ∙ h.size;
  each = λ c lc. elim (same_or_not c (at column k)) [
    | inl e ↦ subst (λ o. MatchOption o ((r : ℕ) → r < k + 1 → at column r ≢ c) (λ r. (r < k + 1) × (at column r ≡ c)))
        (sym (ap (λ d. get_or (set owner (at column k) (Some k)) d None) e ∙ get_or-set_same owner (at column k) (Some k) None (omega (arith, h.size)))) (omega arith, sym e)
    | inr n ↦ subst (λ o. MatchOption o ((r : ℕ) → r < k + 1 → at column r ≢ c) (λ r. (r < k + 1) × (at column r ≡ c)))
        (sym (get_or-set_other owner (at column k) c (Some k) None n)) (later k column c (get_or owner c None) (λ q. n (sym q)) (h.each c lc))
  ];
}

none_contained : (column : List ℕ) (c : ℕ) (o : Option ℕ) → MatchOption o ((r : ℕ) → r < length column → at column r ≢ c) (λ r. (r < length column) × (at column r ≡ c))
    → MatchOption o (¬ Contains column c) (λ r. (r < length column) × (at column r ≡ c))
none_contained column c None h = λ m. let q = at-Contains column c m in h q.0 q.1 q.2
none_contained column c (Some r) h = h

pub IsOwners-from_below : (columns : ℕ) (column : List ℕ) (owner : List (Option ℕ)) → IsOwnersBelow columns (length column) column owner → IsOwners columns column owner
IsOwners-from_below columns column owner h = record { size = h.size; each = λ c l. none_contained column c (get_or owner c None) (h.each c l) }

-- a column without owner is free
pub free_from_owners : (columns : ℕ) (column : List ℕ) (owner : List (Option ℕ))
    → IsOwners columns column owner → (c e : ℕ) → c ≡ e → e < columns → ((r : ℕ) → get_or owner c None ≡ Some r → ⊥) → ¬ Contains column e
free_from_owners columns column owner h c e same l none = by (get_or owner e None) refl (h.each e l)
  where
    by : (o : Option ℕ) → get_or owner e None ≡ o → MatchOption o (¬ Contains column e) (λ r. (r < length column) × (at column r ≡ e)) → ¬ Contains column e
    by None q m = m
    by (Some r) q m = absurd (none r (ap (λ x. get_or owner x None) same ∙ q))

-- the row that has a column
pub owned_from_owners : (columns : ℕ) (column : List ℕ) (owner : List (Option ℕ))
    → IsOwners columns column owner → (c e r : ℕ) → c ≡ e → e < columns → get_or owner c None ≡ Some r → (r < length column) × (at column r ≡ e)
owned_from_owners columns column owner h c e r same l is =
    subst (λ o. MatchOption o (¬ Contains column e) (λ q. (q < length column) × (at column q ≡ e))) (ap (λ x. get_or owner x None) (sym same) ∙ is) (h.each e l)
