-- A row that holds nothing at its column gets one where it does, along the way that a search has found.
use Rattle.std.proofs.Common.{◌≡◌, ℕ, zero, suc, ◌+◌, ◌<◌, ◌≤◌, inl, inr, List, length, get_or, IsPermutation, sym, ap, subst, ◌∙◌, arith}
use Rattle.std.proofs.lemmas.List.{get_or_default}
use Rattle.std.specs.List.{SwappedAt}
use Rattle.msp_assign.specs.Passing.{at, IsTree, IsStep, IsPassedOn}
use Rattle.msp_class.proofs.Cases.{same_or_not}
use Rattle.msp_timetable.specs.Square.{IsPermuted, IsOwners, IsFound, IsBetter}
use Rattle.msp_timetable.proofs.Lists.{IsPermuted-permutation}

module _ (n : ℕ) (f : ℕ → ℕ → ℕ) (column owner : List ℕ) (p : IsPermuted n column) (o : IsOwners n column owner)
    (row free last : ℕ) (from tree : List ℕ) (h : IsFound n f column row from tree free) (is_last : last ≡ at owner free)
    (turned : List ℕ) (s : SwappedAt column turned row last) (same : IsPermutation column turned) where
  last_free : at column last ≡ free
  last_free = ap (at column) is_last ∙ (o.each free h.inside).1

  first_free : at turned (at tree 0) ≡ free
  first_free = ap (at turned) h.first ∙ s.0 0 ∙ last_free

  kept : (k : ℕ) → 1 ≤ k → k < length tree → at turned (at tree k) ≡ at column (at tree k)
  kept k a l = s.2 (at tree k) 0 (λ e. h.growing.apart 0 k a l (h.first ∙ sym e)) (λ e. h.other k a l (ap (at column) e ∙ last_free))

  turned_permuted : IsPermuted n turned
  turned_permuted = IsPermuted-permutation n column turned p same

  pub IsTree-turned : IsTree turned from tree
  IsTree-turned = record {
    some = h.growing.some;
    rows = λ k l. omega (arith, h.growing.rows k l, turned_permuted.size);
    columns = λ k l. omega (arith, turned_permuted.inside (at tree k) (h.growing.rows k l), h.growing.size);
    apart = h.growing.apart;
    within = subst (λ x. at from x < length tree) (sym first_free) (h.growing.edges free h.inside h.reached).0;
    before = λ k a l. subst (λ x. at from x < k) (sym (kept k a l)) (h.growing.before k a l).0;
  }

  reached : (c : ℕ) → IsStep turned tree c → at from c < n
  reached c (zero, l, e) = subst (λ x. at from x < n) (sym first_free ∙ e) h.reached
  reached c (suc k, l, e) = subst (λ x. at from x < n) (sym (kept (suc k) (omega arith) l) ∙ e) (h.growing.before (suc k) (omega arith) l).1

  small : (c : ℕ) → IsStep turned tree c → c < n
  small c w = subst (λ x. x < n) w.2 (turned_permuted.inside (at tree w.0) (h.growing.rows w.0 w.1))

  holds : (r c : ℕ) → at tree (at from c) ≡ r → IsStep turned tree c → 0 < f r c
  holds r c e w = subst (λ x. 0 < f x c) e (h.growing.edges c (small c w) (reached c w)).1

  pub IsBetter-passed : row < n → (next : List ℕ) → IsPassedOn turned from tree next → IsBetter n f row column next
  IsBetter-passed lr next q = record {
    permuted = IsPermuted-permutation n turned next turned_permuted q.same;
    first = elim (q.each row (omega (arith, turned_permuted.size))) [
      | inl a ↦ absurd (a.0 (sym h.first))
      | inr a ↦ holds row (at next row) a.0 a.1
    ];
    others = λ r l u. elim (q.each r (omega (arith, turned_permuted.size))) [
      | inl a ↦ elim (same_or_not r last) [
        | inl e ↦ let z : f r free ≡ 0 = h.empty r l (ap (at column) e ∙ last_free) in absurd (omega (arith, u, ap (f r) (ap (at column) e ∙ last_free), z))
        | inr e ↦ subst (λ x. 0 < f r x) (sym (a.1 ∙ s.2 r 0 (λ d. a.0 (d ∙ sym h.first)) e)) u
      ]
      | inr a ↦ holds r (at next r) a.0 a.1
    ];
  }

  -- the same, as the lists are read
  pub IsTree-read : (from2 tree2 : List ℕ) → from2 ≡ from → tree2 ≡ tree → IsTree turned from2 tree2
  IsTree-read from2 tree2 a b = subst (λ xs. IsTree turned xs tree2) (sym a) (subst (IsTree turned from) (sym b) IsTree-turned)

  pub IsBetter-read : row < n → (from2 tree2 next next2 : List ℕ) → from2 ≡ from → tree2 ≡ tree → next2 ≡ next → IsPassedOn turned from2 tree2 next → IsBetter n f row column next2
  IsBetter-read lr from2 tree2 next next2 a b e q =
      subst (IsBetter n f row column) (sym e) (IsBetter-passed lr next (subst (λ xs. IsPassedOn turned from xs next) b (subst (λ xs. IsPassedOn turned xs tree2 next) a q)))

-- the columns that are exchanged, as the lists are read
pub read_turned : (column owner read turned : List ℕ) (row free last : ℕ) → read ≡ column → free < length owner → last ≡ get_or owner free last → SwappedAt read turned row last
    → IsPermutation read turned → (last ≡ at owner free) × SwappedAt column turned row last × IsPermutation column turned
read_turned column owner read turned row free last e l is swapped same =
    (is ∙ get_or_default owner free last 0 l, subst (λ xs. SwappedAt xs turned row last) e swapped, subst (λ xs. IsPermutation xs turned) e same)

-- the rows before k hold stock at their columns, and so does the row at k afterwards
pub stocks-next : (n : ℕ) (f : ℕ → ℕ → ℕ) (k : ℕ) (column next : List ℕ) → IsBetter n f k column next → k < n
    → ((r : ℕ) → r < k → 0 < f r (at column r)) → (r : ℕ) → r < k + 1 → 0 < f r (at next r)
stocks-next n f k column next b lk h r l = elim (same_or_not r k) [
  | inl e ↦ subst (λ x. 0 < f x (at next x)) (sym e) b.first
  | inr m ↦ let before : r < k = omega arith in b.others r (omega arith) (h r before)
]
