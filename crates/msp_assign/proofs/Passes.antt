-- The walk back from a free column, row after row of the tree.
use Rattle.std.proofs.Common.{◌≡◌, ◌≢◌, ℕ, ◌<◌, ◌≤◌, ◌⊎◌, inl, inr, List, length, IsPermutation, sym, ap, subst, ◌∙◌, arith, refl}
use Rattle.std.proofs.lemmas.List.Sorted.{IsPermutation-trans, IsPermutation-refl}
use Rattle.std.specs.List.{SwappedAt}
use Rattle.msp_assign.specs.Passing.{at, IsTree, IsStep, IsPassedOn}
use Rattle.msp_class.proofs.Cases.{same_or_not}

module _ (column «from» tree : List ℕ) where
  -- back at a place of the tree: the first row has the column that was taken from its row last
  pub record IsPassing (next : List ℕ) (place : ℕ) : Type 0 where
    pub same : IsPermutation column next
    pub size : length next ≡ length column
    pub each : (r : ℕ) → r < length column → r ≢ at tree 0 → (at next r ≡ at column r) ⊎ ((at tree (at «from» (at next r)) ≡ r) × IsStep column tree (at next r))
    pub last : IsStep column tree (at next (at tree 0))
    pub place_is : place ≡ at «from» (at next (at tree 0))
    pub inside : place < length tree
    pub kept : (k : ℕ) → 1 ≤ k → k ≤ place → at next (at tree k) ≡ at column (at tree k)

  module _ (t : IsTree column «from» tree) where
    pub IsPassing-start : IsPassing column (at «from» (at column (at tree 0)))
    IsPassing-start = record {
      same = IsPermutation-refl column;
      size = refl;
      each = λ r l n. inl refl;
      last = (0, t.some, refl);
      place_is = refl;
      inside = t.within;
      kept = λ k a b. refl;
    }

    pub IsPassing-next : (next after : List ℕ) (place : ℕ) → IsPassing next place → 1 ≤ place → SwappedAt next after (at tree place) (at tree 0) → IsPermutation next after → length after ≡ length next
        → IsPassing after (at «from» (at next (at tree place)))
    IsPassing-next next after place h l s p le = record {
      same = IsPermutation-trans column next after h.same p;
      size = le ∙ h.size;
      each = λ r lr n. elim (same_or_not r (at tree place)) [
        | inl e ↦ subst (λ x. (at after x ≡ at column x) ⊎ ((at tree (at «from» (at after x)) ≡ x) × IsStep column tree (at after x))) (sym e)
            (inr (ap (λ x. at tree (at «from» x)) (s.0 0) ∙ ap (at tree) (sym h.place_is), subst (IsStep column tree) (sym (s.0 0)) h.last))
        | inr m ↦ subst (λ x. (x ≡ at column r) ⊎ ((at tree (at «from» x) ≡ r) × IsStep column tree x)) (sym (s.2 r 0 m n)) (h.each r lr n)
      ];
      last = subst (IsStep column tree) (sym (s.1 0)) (place, h.inside, sym own);
      place_is = ap (at «from») (sym (s.1 0));
      inside = omega (arith, lower, h.inside);
      kept = λ k a b.
          let lk : k < place = omega (arith, lower, b) in
          s.2 (at tree k) 0 (t.apart k place lk h.inside) (λ e. t.apart 0 k (omega arith) (omega (arith, lk, h.inside)) (sym e)) ∙ h.kept k a (omega (arith, lk));
    }
      where
        own : at next (at tree place) ≡ at column (at tree place)
        own = h.kept place l (omega arith)

        lower : at «from» (at next (at tree place)) < place
        lower = subst (λ x. at «from» x < place) (sym own) (t.before place l h.inside)

    pub IsPassedOn-end : (next : List ℕ) → IsPassing next 0 → IsPassedOn column «from» tree next
    IsPassedOn-end next h = record {
      same = h.same;
      each = λ r l. elim (same_or_not r (at tree 0)) [
        | inl e ↦ subst (λ x. ((x ≢ at tree 0) × (at next x ≡ at column x)) ⊎ ((at tree (at «from» (at next x)) ≡ x) × IsStep column tree (at next x)))
            (sym e) (inr (ap (at tree) (sym h.place_is), h.last))
        | inr n ↦ elim (h.each r l n) [
          | inl a ↦ inl (n, a)
          | inr a ↦ inr a
        ]
      ];
    }
