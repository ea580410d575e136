-- Only the numbers of the table lead anywhere.
use Rattle.std.proofs.Common.{◌≡◌, ℕ, ◌≤◌, Bool, true, false, List, [], ◌∷◌, ◌&&◌, eqb, leb, cond, Some, None, refl, arith}
use Rattle.std.specs.List.{find, list_all}
use Rattle.std.proofs.lemmas.Bool.{and_parts, leb-true, eqb-true}
use Rattle.std.specs.Prelude.{option_and_then}
use Rattle.msp_class.specs.declared.class.Class.{Class}
use Rattle.msp_table.specs.declared.row.TheConstants.{ROWS}
use Rattle.msp_table.specs.Rows.{RowRule, table, row_of, goes_by, goes_of}

-- what `find` finds passes its test, and each other test that all pass
pub find_passes : {X : Type 0} (p q : X → Bool) (xs : List X) (x : X) → list_all q xs ≡ true → find p xs ≡ Some x → (p x ≡ true) × (q x ≡ true)
find_passes p q [] x all found = cc
find_passes p q (y ∷ ys) x all found =
    elim (p y) as (λ v. p y ≡ v → cond v (Some y) (find p ys) ≡ Some x → (p x ≡ true) × (q x ≡ true)) [
      | true ↦ λ passes is. let here : q y ≡ true = (and_parts (q y) (list_all q ys) all).0 in (cc, cc)
      | false ↦ λ fails is. find_passes p q ys x (and_parts (q y) (list_all q ys) all).1 is
    ] refl found

abbrev is_numbered : RowRule → Bool
is_numbered r = leb 1 r.number && leb r.number ROWS

table-numbered : list_all is_numbered table ≡ true
unfolding table
table-numbered = refl

row_of-numbered : (k : ℕ) (r : RowRule) → row_of k ≡ Some r → (1 ≤ k) × (k ≤ ROWS)
row_of-numbered k r is =
    let both = find_passes (λ s. eqb s.number k) is_numbered table r table-numbered is in
    let same : r.number ≡ k = eqb-true r.number k both.0 in
    let from_one : 1 ≤ r.number = leb-true 1 r.number (and_parts (leb 1 r.number) (leb r.number ROWS) both.1).0 in
    let to_last : r.number ≤ ROWS = leb-true r.number ROWS (and_parts (leb 1 r.number) (leb r.number ROWS) both.1).1 in
    (omega arith, omega arith)

-- only the rows of the table lead anywhere
pub goes_of-numbered : (k : ℕ) (a c : Class) → goes_of k a ≡ Some c → (1 ≤ k) × (k ≤ ROWS)
unfolding goes_of
goes_of-numbered k a c goes =
    elim (row_of k) as (λ o. row_of k ≡ o → option_and_then (λ r. goes_by r a) o ≡ Some c → (1 ≤ k) × (k ≤ ROWS)) [
      | None ↦ λ is none. cc
      | Some r ↦ λ is some. row_of-numbered k r is
    ] refl goes
