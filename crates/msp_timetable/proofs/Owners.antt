-- The rows of the columns, row after row.
use Rattle.std.proofs.Common.{◌≡◌, ℕ, ◌+◌, ◌<◌, inl, inr, List, length, set, sym, ap, ◌∙◌, arith}
use Rattle.std.proofs.lemmas.List.{get_or-set_same, get_or-set_other, get_or_default}
use Rattle.msp_class.proofs.Sums.{OnceBelow-contains}
use Rattle.msp_assign.specs.Passing.{at}
use Rattle.msp_class.proofs.Cases.{same_or_not}
use Rattle.msp_timetable.specs.Square.{IsPermuted, IsOwners}
use Rattle.msp_timetable.proofs.Lists.{same_back_to_back, OnceBelow-permuted}

pub noted-next : (n : ℕ) (column owner : List ℕ) → IsPermuted n column → length owner ≡ n
    → (k : ℕ) → k < n → ((r : ℕ) → r < k → at owner (at column r) ≡ r) → (r : ℕ) → r < k + 1 → at (set owner (at column k) k) (at column r) ≡ r
noted-next n column owner p size k l h r lr = elim (same_or_not r k) [
  | inl e ↦ ap (λ x. at (set owner (at column k) k) (at column x)) e ∙ get_or-set_same owner (at column k) k 0 (omega (arith, size, p.inside k l)) ∙ sym e
  | inr e ↦ get_or-set_other owner (at column k) (at column r) k 0 (λ q. e (same_back_to_back n column p r k (omega arith) l q)) ∙ h r (omega arith)
]

pub IsOwners-noted : (n : ℕ) (column owner : List ℕ) → IsPermuted n column → length owner ≡ n → ((r : ℕ) → r < n → at owner (at column r) ≡ r) → IsOwners n column owner
IsOwners-noted n column owner p size h = record {
  size = size;
  each = λ c l. let w = OnceBelow-contains (OnceBelow-permuted n column p) c l in
      let lr : w.0 < n = omega (arith, w.1, p.size) in
      let e : at column w.0 ≡ c = get_or_default column w.0 0 c w.1 ∙ w.2 in
      let q : at owner c ≡ w.0 = ap (at owner) (sym e) ∙ h w.0 lr in
      (omega (arith, q, lr), ap (at column) q ∙ e);
}
